-- Why decide keeps its promise.
mod PrefixLaws
mod StartLaws
mod ListableLaws
mod DecisionLaws
mod HoldingLaws
mod VerdictLaws

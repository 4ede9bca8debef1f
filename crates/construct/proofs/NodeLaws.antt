-- How many nodes an accepted query has: its steps, the start and the constants.
use Prim.Native.Nat.{ℕ, ◌+◌, ◌≤◌}
use mathlib.Core.List.{List}
use mathlib.Core.Path.{◌≡◌, sym}
use native.Mathlib.Omega.{arith}
use lib.ListN.{length, get_or, take, replicate, length-replicate}
use lib.Seq.{length-take-le}
use Rattle.records.specs.Layout.{max_constants}
use Rattle.records.specs.SchemaRecord.{signature_of, schema_of}
use Rattle.records.proofs.AcceptedLaws.{passes_1}
use Rattle.chase.specs.Task.{nodes, task_of}
use Rattle.chase.proofs.AcceptanceLaws.{accepted-signature}
use Rattle.chase.specs.Bounds.{max_nodes}
use Rattle.primary.specs.Asked.{query_task}
use Rattle.primary.proofs.SettleLaws.{nodes_few}
use Rattle.asked.proofs.AskedLaws.{start_is}
use Rattle.construct.specs.Closed.{Pair}

module _ (s q : List ℕ) (ok : Pair s q) where
  pub constants_few : (signature_of s).constants ≤ max_constants
  constants_few = (accepted-signature s (passes_1 s ok.schema_accepted)).2

  pub nodes_are : (a : ℕ) → a ≡ get_or q 1 0 → a + 1 + (signature_of s).constants ≡ nodes (query_task s q)
  unfolding task_of schema_of
  nodes_are a h = omega (arith, start_is s q ok.schema_accepted ok.query_accepted h)

  -- a part of an array of zeros that has an entry for each node
  module _ (n : ℕ) (is : n ≡ nodes (query_task s q)) where
    pub zeros_fit : n ≤ length {A = ℕ} (replicate max_nodes 0)
    zeros_fit = omega (arith, is, nodes_few s q ok.schema_accepted ok.query_accepted, length-replicate {A = ℕ} max_nodes 0)

    pub zeros_length : n ≡ length {A = ℕ} (take n (replicate max_nodes 0))
    zeros_length = sym (length-take-le {A = ℕ} n (replicate max_nodes 0) zeros_fit)

-- Document 01, "Turned back": what the refusals of all records share.
use Rattle.std.specs.Prelude.{ℕ, List, Bool, not, ◌||◌, eqb, ltb, length}
use Rattle.records.specs.declared.layout.Layout.{Layout}
use Rattle.records.specs.Layout.{entries, length_for}

-- fewer words than its sizes, or a length other than its sizes and twice its entries
unfoldable pub misshapen : Layout → List ℕ → Bool
misshapen L w = ltb (length w) L.sizes || not (eqb (length w) (length_for L (entries L w)))

abbrev pub outside : ℕ → ℕ → ℕ → Bool
outside low high x = ltb x low || ltb high x

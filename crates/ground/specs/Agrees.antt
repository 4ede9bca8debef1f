-- Two grounds that agree in all that the made part reads: their objects, class sets and edges.
use Rattle.std.specs.Prelude.{◌≡◌}
use Rattle.chase.specs.Ground.{Ground}

pub record Agrees (G H : Ground) : Type 0 where
  pub objects : G.objects ≡ H.objects
  pub sets : G.sets ≡ H.sets
  pub edges : G.edges ≡ H.edges

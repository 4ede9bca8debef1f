-- The fact that puts an object into a class is written where the class is in its set.
use Prim.Native.Nat.{ℕ}
use mathlib.Core.Bool.{Bool}
use mathlib.Core.Path.{◌≡◌, ap₂, ◌∙◌}
use Rattle.records.specs.Schema.{Schema}
use Rattle.records.specs.Encoding.{fact}
use Rattle.chase.specs.ClassSet.{place, meets, has}
use Rattle.chase.specs.Ground.{Ground}
use Rattle.chase.specs.Forest.{Forest, classes_of}
use Rattle.chase.specs.Written.{class_facts}
use Rattle.candidate.specs.Writing.{fact_if}

pub class_is : (S : Schema) (G : Ground) (T : Forest) (A d c m f : ℕ) (b : Bool) → c ≡ classes_of S G T d → m ≡ place A → b ≡ meets c m
    → f ≡ fact A d 0 → fact_if b f ≡ class_facts S G T A d
unfolding class_facts has
class_is S G T A d c m f b p h q e = ap₂ fact_if (q ∙ ap₂ meets p h) e

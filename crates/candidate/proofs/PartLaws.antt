-- All facts in the three parts in which they are written, the members, the pairs and the names.
use Prim.Native.Nat.{ℕ, ◌+◌, ◌≤◌}
use native.Mathlib.Omega.{arith}
use mathlib.Core.List.{List, [], ◌++◌}
use mathlib.Core.Path.{◌≡◌, refl, sym, ap, subst, ◌∙◌}
use lib.ListN.{length}
use Rattle.records.specs.declared.schema.Signature.{Signature}
use Rattle.records.specs.Layout.{max_classes, max_attributes, max_constants}
use Rattle.records.specs.Schema.{Schema}
use Rattle.records.specs.SchemaRecord.{schema_of}
use Rattle.chase.specs.Bounds.{most_facts}
use Rattle.chase.specs.Ground.{Ground}
use Rattle.chase.specs.Forest.{Forest}
use Rattle.chase.specs.Written.{gather, object_facts}
use Rattle.records.proofs.AcceptedLaws.{passes_1}
use Rattle.chase.proofs.AcceptanceLaws.{accepted-signature}
use Rattle.ground.specs.Objects.{ground_in, forest_in}
use Rattle.forest.proofs.ObjectLaws.{size_laid}
use Rattle.candidate.specs.declared.number.Sizes.{Sizes}
use Rattle.candidate.specs.Writing.{Room, Wrote}
use Rattle.candidate.specs.Facts.{class_row, pair_row, members_in, pairs_in, name_facts, mark_facts, facts_in}
use Rattle.candidate.specs.Ready.{Ready, Sized}
use Rattle.candidate.proofs.WriteLaws.{room_first, room_next, room_as, wrote_as, wrote_then}
use Rattle.candidate.proofs.SearchLaws.{objects_bound}
use Rattle.candidate.proofs.BoundLaws.{facts_fit, marks_few}
use Rattle.candidate.proofs.AgreeLaws.{members_same}

module _ (schema reps : List ℕ) (first : ℕ) (edges words : List ℕ) (z : Sizes) (ready : Ready schema reps first edges words z)
    (s : Signature) (is : s ≡ (schema_of schema).signature) where
  abbrev S : Schema
  S = schema_of schema

  abbrev G : Ground
  G = ground_in z.ground words edges

  abbrev T : Forest
  T = forest_in z.ground z.made words

  abbrev members : List ℕ
  members = gather s.classes (members_in schema words z)

  abbrev pairs : List ℕ
  pairs = gather s.attributes (pairs_in schema edges words z)

  abbrev names : List ℕ
  names = name_facts reps first s.constants

  parts : (members ++ pairs) ++ names ≡ facts_in schema reps first edges z.ground z.made words
  unfolding object_facts
  parts =
      ap (λ (l : List ℕ). (l ++ pairs) ++ names) (members_same (ground_in z.ground words []) G refl refl S T s.classes z.total)
      ∙ ap
      (λ (u : Signature).
      (gather u.classes (class_row S G T z.total) ++ gather u.attributes (pair_row S G T z.total)) ++ name_facts reps first u.constants) is
      ∙ ap
      (λ (m : ℕ).
      (gather S.signature.classes (class_row S G T m) ++ gather S.signature.attributes (pair_row S G T m))
      ++ name_facts reps first S.signature.constants) ready.number

  pub sized : Sized schema words z
  sized =
      record {
        legal = ready.legal;
        kept = ready.kept;
        closing = omega (arith, ready.number, objects_bound S G T, size_laid z.ground z.made words ready.kept.laid words edges);
        small = ready.small;
      }

  pub limits : (s.classes ≤ max_classes) × (s.attributes ≤ max_attributes) × (s.constants ≤ max_constants)
  unfolding schema_of
  limits =
      subst (λ (u : Signature). (u.classes ≤ max_classes) × (u.attributes ≤ max_attributes) × (u.constants ≤ max_constants)) (sym is)
      (accepted-signature schema (passes_1 schema ready.legal))

  pub nodes_inside : first + s.constants ≤ length reps
  nodes_inside = subst (λ (u : Signature). first + u.constants ≤ length reps) (sym is) ready.constants

  module _ (out : List ℕ) (fits : most_facts S.signature z.total (length edges) ≤ length out) where
    room : Room 0 ((members ++ pairs) ++ names) out
    unfolding Room
    room =
        room_as 0 _ (facts_in schema reps first edges z.ground z.made words) out parts
        (omega (
          arith,
          fits,
          facts_fit schema reps edges words first z.ground z.made,
          ap (λ (m : ℕ). most_facts S.signature m (length edges)) ready.number,
        ))

    -- after these there is room for a fact of each mark
    pub marks_room : (r : ℕ) (after : List ℕ) → Wrote 0 (facts_in schema reps first edges z.ground z.made words) out r after
        → (u : Signature) (nodes : List ℕ) → Room r (mark_facts u reps nodes) after
    unfolding Room
    marks_room r after a u nodes =
        omega (
          arith,
          fits,
          facts_fit schema reps edges words first z.ground z.made,
          ap (λ (m : ℕ). most_facts S.signature m (length edges)) ready.number,
          a.end,
          a.size,
          marks_few u reps nodes,
        )

    pub members_room : Room 0 members out
    members_room = room_first 0 members pairs out (room_first 0 (members ++ pairs) names out room)

    module _ (r : ℕ) (mid : List ℕ) (a : Wrote 0 members out r mid) where
      pub pairs_room : Room r pairs mid
      pairs_room = room_next 0 r members pairs out mid (room_first 0 (members ++ pairs) names out room) a

      module _ (q : ℕ) (late : List ℕ) (b : Wrote r pairs mid q late) where
        both : Wrote 0 (members ++ pairs) out q late
        both = wrote_then 0 r q members pairs out mid late a b

        pub names_room : Room q names late
        names_room = room_next 0 q (members ++ pairs) names out late room both

        pub all_wrote : (e : ℕ) (after : List ℕ) → Wrote q names late e after
            → Wrote 0 (facts_in schema reps first edges z.ground z.made words) out e after
        all_wrote e after d = wrote_as 0 e _ _ out after parts (wrote_then 0 q e (members ++ pairs) names out late after both d)

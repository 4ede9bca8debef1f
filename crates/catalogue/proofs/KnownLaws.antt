-- What is known of the pairs: it stays true as it grows, and a pair may follow from it.
use Prim.Native.Nat.{ℕ, ◌^◌, ◌≤◌, ◌<◌}
use mathlib.Core.Bool.{false, So, ◌&&◌, ◌||◌, false≢true}
use mathlib.Core.List.{List}
use mathlib.Core.Logic.{⊎_elim}
use mathlib.Core.Path.{◌≡◌, refl, sym, ap, ◌∙◌}
use native.Mathlib.Decide.{dec_lt}
use native.Mathlib.Omega.{arith}
use borrow.Author.Tests.{eqb-true, eq-eqb}
use lib.Bits.{bit_or}
use lib.Dec.{eqb}
use lib.ListN.{length, get_or, set, replicate, length-set, length-replicate, get_or-replicate}
use lib.Seq.{get_or-set_same}
use Rattle.records.specs.Finite.{bit}
use Rattle.records.specs.Layout.{query_steps, view_steps, max_views, query_marks}
use Rattle.records.specs.Concept.{Concept}
use Rattle.records.specs.Subsumption.{Open, Held}
use Rattle.records.specs.SchemaRecord.{signature_of, schema_of}
use Rattle.records.specs.ConceptRecord.{concept_of}
use Rattle.records.specs.CatalogueRecord.{views, view_at}
use Rattle.records.specs.Helpers.Triple.{Triple}
use Rattle.records.proofs.General.BoolLaws.{or_left, or_right, or_true_cases, and_parts}
use Rattle.records.proofs.General.BitLaws.{word_or, word_zero, word_one}
use Rattle.records.proofs.General.FiniteLaws.{any_found}
use Rattle.records.proofs.General.ListLaws.{set_elim}
use Rattle.records.proofs.SubsumptionLaws.{held_self, held_through, open_through, held_not_open}
use Rattle.records.specs.ConceptRefusal.{AcceptedConcept}
use Rattle.records.specs.Outcome.{query_signature}
use Rattle.records.proofs.AcceptedLaws.{accepted_wider}
use Rattle.records.proofs.MarkLaws.{accepted_allowing}
use Rattle.records.proofs.CatalogueLaws.{laid_of, accepted_layout, accepted_view}
use Rattle.decide.specs.Holding.{Tells}
use Rattle.catalogue.specs.Helpers.{in_row, meets, Joined, Alone, refutes, settled, Accepted, Known, Grown}
use Rattle.catalogue.proofs.SetLaws.{meets_some, joined_cases, joined_keeps, joined_adds, row_inside}

module _ (schema w : List ℕ) where
  abbrev n : ℕ
  n = views w

  abbrev pub view : ℕ → Concept
  view i = concept_of (view_at w i)

  abbrev pub HeldBy : ℕ → ℕ → Type 0
  HeldBy i j = Held (schema_of schema) (view i) (view j)

  pub by_two : (i j k : ℕ) → HeldBy i j → HeldBy j k → HeldBy i k
  by_two i j k = held_through (schema_of schema) (view i) (view j) (view k)

  abbrev OpenTo : ℕ → ℕ → Type 0
  OpenTo i j = Open (schema_of schema) (view i) (view j)

  -- What is accepted: few views, and each two of them with the schema.
  pub few_views : Accepted schema w → n ≤ max_views
  few_views a = (laid_of w (accepted_layout (signature_of schema) w a.catalogue_accepted)).few

  accepted_at : Accepted schema w → (i : ℕ) → i < n → AcceptedConcept view_steps (signature_of schema) (view_at w i)
  unfolding signature_of
  accepted_at a i h = accepted_view (signature_of schema) w a.catalogue_accepted i h

  pub triple_of : Accepted schema w → (i j : ℕ) → i < n → j < n → Triple schema (view_at w i) (view_at w j)
  triple_of a i j h k =
      record {
        schema_accepted = a.schema_accepted;
        query_accepted =
            accepted_wider view_steps (query_signature schema) (view_at w i)
            (accepted_allowing view_steps schema (view_at w i) query_marks (accepted_at a i h)) query_steps (omega arith);
        view_accepted = accepted_at a j k;
      }

  -- Known of each view by itself, and of nothing else.
  alone_row : (rows : List ℕ) → Alone n rows → (i j : ℕ) → So (in_row rows i j) → (i < n) × (j ≡ i)
  alone_row rows l i j h =
      elim (dec_lt i n) [
        | yes y ↦ (y, eqb-true j i (sym (word_one i j) ∙ rw (l.first i y) at h))
        | no m ↦ absurd (false≢true (sym (word_zero j) ∙ rw (l.rest i (omega arith) (row_inside rows i j l.size h)) at h))
      ]

  pub alone_known : Accepted schema w → (rows : List ℕ) → Alone n rows → Known schema w rows (replicate max_views 0)
  alone_known a rows l =
      record {
        accepted = a;
        size = l.size;
        opens_size = length-replicate {A = ℕ} max_views 0;
        self = λ i h. rw (l.first i h) (word_one i i ∙ eq-eqb i i refl);
        is_held = λ i j h. let (y, e) = alone_row rows l i j h in (y, rw e y, rw e (held_self (schema_of schema) (view i)));
        is_open = λ i j h. absurd (false≢true (sym (word_zero j) ∙ rw (get_or-replicate {A = ℕ} max_views i 0 0 (row_inside (replicate max_views 0) i j (length-replicate {A = ℕ} max_views 0) h)) at h));
      }

  module _ (rows opens : List ℕ) (known : Known schema w rows opens) where
    -- the pair is refuted by what is known
    pub tells_refuted : (i j : ℕ) → So (refutes n rows opens i j) → Tells schema (view_at w i) (view_at w j) false
    unfolding refutes
    tells_refuted i j h =
        let (a, l, x) = any_found (λ a. in_row rows a i && meets (get_or opens a 0) (get_or rows j 0)) n h in
        let both = and_parts (in_row rows a i) (meets (get_or opens a 0) (get_or rows j 0)) x in
        let (b, p, q) = meets_some (get_or opens a 0) (get_or rows j 0) both.1 in
        let o = open_through (schema_of schema) (view i) (view a) (view b) (view j) (known.is_held a i both.0).2 (known.is_open a b p).2 (known.is_held j b q).2 in
        record {
          is_held = (λ e. absurd (false≢true e), λ e. absurd (held_not_open (schema_of schema) (view i) (view j) e o));
          is_open = (λ _. o, λ _. refl);
        }

    -- nothing new
    pub grown_same : Grown schema w rows opens rows opens
    grown_same = record { known = known; keeps = λ i j h. h }

    module _ (i j : ℕ) (hi : i < n) (hj : j < n) where
      -- a pair that is held, and what follows from it
      module _ (rows' : List ℕ) (z : Joined n i j rows rows') where
        keeps : (a b : ℕ) → So (in_row rows a b) → So (in_row rows' a b)
        keeps a b h = rw (z.first a (known.is_held a b h).0) (joined_keeps i (get_or rows j 0) (get_or rows a 0) b h)

        pub held_settled : So (settled rows' opens i j)
        held_settled =
            or_left (in_row rows' i j) (in_row opens i j)
            (rw (z.first i hi) (joined_adds i (get_or rows j 0) (get_or rows i 0) j (known.self i hi) (known.self j hj)))

        cases : HeldBy i j → (a b : ℕ) → So (in_row rows' a b) → (a < n) × (b < n) × HeldBy a b
        cases e a b h =
            elim (dec_lt a n) [
              | yes l ↦
                  ⊎_elim (known.is_held a b)
                  (λ (x : So (in_row rows a i) × So (in_row rows j b)). let y = known.is_held j b x.1 in (l, y.1, by_two a i b (known.is_held a i x.0).2 (by_two i j b e y.2)))
                  (joined_cases i (get_or rows j 0) (get_or rows a 0) b (rw (z.first a l) at h))
              | no m ↦
                  known.is_held a b (rw (z.rest a (omega arith) (row_inside rows' a b z.size h)) at h)
            ]

        pub grown_held : HeldBy i j → Grown schema w rows opens rows' opens
        grown_held e =
            record {
              known =
                  record {
                    accepted = known.accepted;
                    size = z.size;
                    opens_size = known.opens_size;
                    self = λ a h. keeps a a (known.self a h);
                    is_held = cases e;
                    is_open = known.is_open;
                  };
              keeps = λ a b h. ⊎_elim (λ x. or_left (in_row rows' a b) (in_row opens a b) (keeps a b x)) (or_right (in_row rows' a b) (in_row opens a b)) (or_true_cases (in_row rows a b) (in_row opens a b) h);
            }

      -- a pair that is open
      abbrev opens' : List ℕ
      opens' = set opens i (bit_or (get_or opens i 0) (2 ^ j))

      inside : i < length opens
      inside = omega (arith, known.opens_size, few_views known.accepted)

      adds : (b : ℕ) → bit (bit_or (get_or opens i 0) (2 ^ j)) b ≡ (in_row opens i b || eqb b j)
      adds b = word_or (get_or opens i 0) (2 ^ j) b ∙ ap (λ x. in_row opens i b || x) (word_one j b)

      pub open_settled : So (settled rows opens' i j)
      open_settled =
          or_right (in_row rows i j) (in_row opens' i j)
          (rw (get_or-set_same opens i (bit_or (get_or opens i 0) (2 ^ j)) 0 inside) (adds j ∙ or_right (in_row opens i j) (eqb j j) (eq-eqb j j refl)))

      kept : (a b : ℕ) → So (in_row opens a b) → So (in_row opens' a b)
      kept a b h =
          set_elim (λ x. So (bit x b)) opens i _ a inside (λ e. adds b ∙ or_left (in_row opens i b) (eqb b j) (rw e at h)) (λ m. h)

      pub grown_open : OpenTo i j → Grown schema w rows opens rows opens'
      grown_open o =
          record {
            known =
                record {
                  accepted = known.accepted;
                  size = known.size;
                  opens_size = length-set opens i _ ∙ known.opens_size;
                  self = known.self;
                  is_held = known.is_held;
                  is_open = λ a b. set_elim (λ x. So (bit x b) → (a < n) × (b < n) × OpenTo a b) opens i _ a inside (λ e. rw e (new b)) (λ m. known.is_open a b);
                };
            keeps = λ a b h. ⊎_elim (or_left (in_row rows a b) (in_row opens' a b)) (λ x. or_right (in_row rows a b) (in_row opens' a b) (kept a b x)) (or_true_cases (in_row rows a b) (in_row opens a b) h);
          }
        where
          new : (b : ℕ) → So (bit (bit_or (get_or opens i 0) (2 ^ j)) b) → (i < n) × (b < n) × OpenTo i b
          new b h =
              ⊎_elim (known.is_open i b) (λ e. let q = eqb-true b j e in (hi, rw q hj, rw q o))
              (or_true_cases (in_row opens i b) (eqb b j) (sym (adds b) ∙ h))

  pub grown_after : {rows opens rows' opens' rows'' opens'' : List ℕ} → Grown schema w rows opens rows' opens' → Grown schema w rows' opens' rows'' opens''
      → Grown schema w rows opens rows'' opens''
  grown_after g h = record { known = h.known; keeps = λ i j x. h.keeps i j (g.keeps i j x) }

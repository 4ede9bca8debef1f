-- An object that is in a concept has witnesses that meet the concept's facts (witness).
-- The nodes of a part all lie above the numbers of the parts read later, so that witnesses are chosen from the highest
-- number down, and what has been met is not touched again.
use Prim.Native.Nat.{ℕ, suc, ◌+◌, ◌≤◌, ◌<◌}
use native.Mathlib.Omega.{arith}
use mathlib.Core.Path.{◌≡◌, refl, sym, subst, subst₂, ◌∙◌}
use Rattle.records.specs.declared.schema.Signature.{Signature}
use Rattle.records.specs.State.{State, Member, Related}
use Rattle.records.specs.Concept.{Direction, Concept, class, everything, constant, both, reached, common, mark, Path, empty, step}
use Rattle.records.specs.Semantics.{Steps, In, Leads}
use Rattle.records.specs.Helpers.Steps.{concept_steps, path_steps}
use Rattle.chase.specs.Facts.{Side, at_node, of_mark, Facts, end_node, concept_facts, path_facts}
use Rattle.records.specs.Helpers.Declared.{Declared, DeclaredPath}
use Rattle.records.proofs.General.Update.{put, put_same, put_other, put_elim}
use Rattle.records.proofs.General.AllLaws.{all_zip}
use Rattle.chase.proofs.FactsLaws.{Within, end_within, facts_within, path_within, facts_append, facts_none, OnSide, side_object, Meets, steps_meet, equal_meets, Assigns}

-- an assignment that meets F and is g from node b on
pub record Chosen (s : Signature) (first : ℕ) (I : State) (g : ℕ → ℕ) (b : ℕ) (F : Facts) : Type 0 where
  pub assign : ℕ → ℕ
  pub assigns : Assigns s first I assign
  pub above : (n : ℕ) → b ≤ n → assign n ≡ g n
  pub meets : Meets I assign F

meets_above : (I : State) (g f : ℕ → ℕ) (classes b : ℕ) (F : Facts) → ((n : ℕ) → b ≤ n → f n ≡ g n)
    → Within classes (λ n. b ≤ n) F → Meets I g F → Meets I f F
meets_above I g f classes b F same w m =
    record {
      members = all_zip (λ x u v. subst (Member I x.class) (sym (same x.node u.1)) v) F.members w.members m.members;
      equations = all_zip (λ x u v. same x.left u.0 ∙ v ∙ sym (side_same x.right u.1)) F.equations w.equations
          m.equations;
      edges =
          all_zip
          (λ x u v. subst₂ (Related I x.attribute) (sym (same x.origin u.0)) (sym (same x.target u.1)) v)
          F.edges w.edges m.edges;
    }
  where
    side_same : (n : Side) → OnSide (λ n. b ≤ n) n → side_object I f n ≡ side_object I g n
    side_same (at_node n) h = same n h
    side_same (of_mark k) h = refl

module _ (s : Signature) (first : ℕ) (I : State) where
  abbrev unchanged : (g : ℕ → ℕ) (b : ℕ) (F : Facts) → Assigns s first I g → Meets I g F → Chosen s first I g b F
  unchanged g b F G m = record { assign = g; assigns = G; above = λ n h. refl; meets = m }

  assigns_put : (j e : ℕ) (g : ℕ → ℕ) → Assigns s first I g → e < I.size → j < first → Assigns s first I (put j e g)
  assigns_put j e g G b h =
      record {
        inside = λ n. put_elim (λ v. v < I.size) j e g n b (G.inside n);
        constants = λ a l. put_other j e g (first + a) (omega arith) ∙ G.constants a l;
      }

  -- A choice y below m, after a choice x, keeps what was chosen above m.
  join : (f g : ℕ → ℕ) (c b m : ℕ) (F H K : Facts) (x : Chosen s first I f c F) (y : Chosen s first I x.assign m H) → m ≤ b
      → Within s.classes (λ n. m ≤ n) F → ((n : ℕ) → b ≤ n → x.assign n ≡ g n)
      → (Meets I y.assign F → Meets I y.assign H → Meets I y.assign K) → Chosen s first I g b K
  join f g c b m F H K x y h w same meets =
      record {
        assign = y.assign;
        assigns = y.assigns;
        above = λ n l. y.above n (omega arith) ∙ same n l;
        meets = meets (meets_above I x.assign y.assign s.classes m F y.above w x.meets) y.meets;
      }

  from_concept : (C : Concept) (n b : ℕ) → Declared s C → b ≤ n → b ≤ first → Within s.classes (λ m. b ≤ m) (concept_facts first C n b)
  from_concept C n b c hn hf = facts_within s first (λ m. b ≤ m) (λ a h. omega arith) C n b c hn (λ j h l. h)

  from_path : (p : Path) (n b : ℕ) → DeclaredPath s p → b ≤ n → b ≤ first → Within s.classes (λ m. b ≤ m) (path_facts first p n b)
  from_path p n b c hn hf = path_within s first (λ m. b ≤ m) (λ a h. omega arith) p n b c hn (λ j h l. h)

  join_both : (C D : Concept) (n k : ℕ) (g : ℕ → ℕ) → Declared s D → k + (concept_steps C + concept_steps D) ≤ n
      → k + (concept_steps C + concept_steps D) ≤ first
      → Chosen s first I g (k + concept_steps C + concept_steps D) (concept_facts first D n (k + concept_steps C))
      → ((f : ℕ → ℕ) → Assigns s first I f → In I C (f n) → Chosen s first I f (k + concept_steps C) (concept_facts first C n k))
      → In I C (g n) → Chosen s first I g (k + (concept_steps C + concept_steps D)) (concept_facts first (both C D) n k)
  join_both C D n k g d hn hf u rest x =
      join g g _ _ (k + concept_steps C) _ _ _ u
      (rest u.assign u.assigns (subst (In I C) (sym (u.above n (omega arith))) x))
      (omega arith) (from_concept D n (k + concept_steps C) d (omega arith) (omega arith)) (λ i h. u.above i (omega arith)) facts_append

  -- choices for a path that ends at object e
  abbrev Trail : Path → ℕ → ℕ → (ℕ → ℕ) → ℕ → Type 0
  Trail p n k g e = (x : Chosen s first I g (k + path_steps p) (path_facts first p n k)) × (x.assign (end_node p n k) ≡ e)

  join_common : (p q : Path) (n k : ℕ) (g : ℕ → ℕ) (e : ℕ) → DeclaredPath s q → k + (path_steps p + path_steps q) ≤ n
      → k + (path_steps p + path_steps q) ≤ first → Trail q n (k + path_steps p) g e
      → ((f : ℕ → ℕ) → Assigns s first I f → Leads I p (f n) e → Trail p n k f e) → Leads I p (g n) e
      → Chosen s first I g (k + (path_steps p + path_steps q)) (concept_facts first (common p q) n k)
  join_common p q n k g e c hn hf u rest x =
      go (rest u.0.assign u.0.assigns (subst (λ (d : ℕ). Leads I p d e) (sym (u.0.above n (omega arith))) x))
    where
      go : Trail p n k u.0.assign e → Chosen s first I g (k + (path_steps p + path_steps q)) (concept_facts first (common p q) n k)
      go v =
          let m = k + path_steps p in
          let last : v.0.assign (end_node q n m) ≡ e
          = v.0.above (end_node q n m) (end_within (λ i. m ≤ i) q n m (omega arith) (λ i h l. h)) ∙ u.1 in
          join g g _ _ m _ _ _ u.0 v.0 (omega arith) (from_path q n m c (omega arith) (omega arith))
          (λ i h. u.0.above i (omega arith))
          (λ a b. facts_append (facts_append a (equal_meets I v.0.assign (end_node p n k) (at_node (end_node q n m)) (v.1 ∙ sym last))) b)

  -- object e stands at the step's own node
  join_step : (p : Path) (r : Direction) (P : ℕ) (C : Concept) (n k : ℕ) (g : ℕ → ℕ) (c e : ℕ) → Declared s C
      → k + suc (path_steps p + concept_steps C) ≤ n → k + suc (path_steps p + concept_steps C) ≤ first
      → Chosen s first I (put (k + path_steps p + concept_steps C) e g) (k + path_steps p + concept_steps C)
      (concept_facts first C (k + path_steps p + concept_steps C) (k + path_steps p))
      → ((f : ℕ → ℕ) → Assigns s first I f → Leads I p (f n) c → Trail p n k f c) → Leads I p (g n) c → Steps I r P c e
      → Trail (step p r P C) n k g e
  unfolding join
  join_step p r P C n k g c e d hn hf u rest x y =
      go (rest u.assign u.assigns (subst (λ (i : ℕ). Leads I p i c) (sym (same n (omega arith))) x))
    where
      m : ℕ
      m = k + path_steps p

      j : ℕ
      j = m + concept_steps C

      same : (i : ℕ) → j < i → u.assign i ≡ g i
      same i h = u.above i (omega arith) ∙ put_other j e g i (omega arith)

      go : Trail p n k u.assign c → Trail (step p r P C) n k g e
      go v =
          let at_j : v.0.assign j ≡ e = v.0.above j (omega arith) ∙ u.above j (omega arith) ∙ put_same j e g in
          let met : Steps I r P (v.0.assign (end_node p n k)) (v.0.assign j) = subst₂ (Steps I r P) (sym v.1) (sym at_j) y in (
            join (put j e g) g _ _ m _ _ _ u v.0 (omega arith) (from_concept C j m d (omega arith) (omega arith))
                (λ i h. same i (omega arith))
                (λ a b. facts_append (facts_append a (steps_meet I v.0.assign r P (end_node p n k) j met)) b),
            at_j,
          )

  mutual
    pub witness : (C : Concept) (n k : ℕ) (g : ℕ → ℕ) → Assigns s first I g → Declared s C → k + concept_steps C ≤ n
        → k + concept_steps C ≤ first → In I C (g n) → Chosen s first I g (k + concept_steps C) (concept_facts first C n k)
    witness (class A) n k g G c hn hf x = unchanged g _ _ G record { members = (x, tt); equations = tt; edges = tt }
    witness everything n k g G c hn hf x = unchanged g _ _ G facts_none
    witness (constant a) n k g G c hn hf x = unchanged g _ _ G (equal_meets I g n (at_node (first + a)) (x ∙ sym (G.constants a c)))
    witness (both C D) n k g G c hn hf x =
        join_both C D n k g c.1 hn hf (witness D n (k + concept_steps C) g G c.1 (omega arith) (omega arith) x.1)
        (λ f F y. witness C n k f F c.0 (omega arith) (omega arith) y) x.0
    witness (reached p) n k g G c hn hf x = (trail p n k g x.0 G c hn hf x.1 x.2).0
    witness (common p q) n k g G c hn hf x =
        join_common p q n k g x.0 c.1 hn hf
        (trail q n (k + path_steps p) g x.0 G c.1 (omega arith) (omega arith) x.1 x.2.1)
        (λ f F y. trail p n k f x.0 F c.0 (omega arith) (omega arith) x.1 y) x.2.0
    witness (mark m) n k g G c hn hf x = unchanged g _ _ G (equal_meets I g n (of_mark m) x)

    trail : (p : Path) (n k : ℕ) (g : ℕ → ℕ) (e : ℕ) → Assigns s first I g → DeclaredPath s p → k + path_steps p ≤ n
        → k + path_steps p ≤ first → e < I.size → Leads I p (g n) e → Trail p n k g e
    trail empty n k g e G c hn hf b x = (unchanged g _ _ G facts_none, x)
    trail (step p r P C) n k g e G c hn hf b x =
        let j = k + path_steps p + concept_steps C in
        join_step p r P C n k g x.0 e c.2 hn hf
        (witness C j (k + path_steps p) (put j e g) (assigns_put j e g G b (omega arith)) c.2 (omega arith) (omega arith)
        (subst (In I C) (sym (put_same j e g)) x.2.2))
        (λ f F y. trail p n k f x.0 F c.0 (omega arith) (omega arith) x.1 y) x.2.0 x.2.1

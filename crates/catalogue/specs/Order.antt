-- Document 02, note 3: the order of a catalogue of n views. held i j says whether view i is held by view j.
use Rattle.std.specs.Prelude.{ℕ, zero, suc, Bool, true, not, ◌&&◌, eqb, ltb}
use Rattle.records.specs.Finite.{any, least}

-- Views that hold each other are in one group.
abbrev pub together : (ℕ → ℕ → Bool) → ℕ → ℕ → Bool
together held i j = held i j && held j i

-- The group of view i is narrower than that of view j: it is held by it, and not the same.
abbrev pub narrower : (ℕ → ℕ → Bool) → ℕ → ℕ → Bool
narrower held i j = held i j && not (held j i)

module _ (n : ℕ) (held : ℕ → ℕ → Bool) where
  -- View i is still to come, in a group with no narrower group still to come.
  unfoldable pub ready : (ℕ → Bool) → ℕ → Bool
  ready to_come i = to_come i && not (any n λ j. to_come j && narrower held j i)

  -- The next group is, of those, the one with the lowest view number in it: that number, or n where there is none.
  unfoldable pub next : (ℕ → Bool) → ℕ
  next to_come = least n (ready to_come)

  -- All views are to come before the first group, and after each group those that are not in it.
  unfoldable pub to_come : ℕ → ℕ → Bool
  to_come zero i = true
  to_come (suc k) i = to_come k i && not (together held (next (to_come k)) i)

  -- the lowest view of group k
  abbrev pub lowest : ℕ → ℕ
  lowest k = next (to_come k)

  -- how many groups there are: until none is next
  unfoldable pub groups : ℕ
  groups = least n λ k. eqb (lowest k) n

  -- The answer as two tables: view i is held by view j, and view i is in group k. Neither has anything past the last.
  abbrev pub held_at : ℕ → ℕ → Bool
  held_at i j = ltb i n && (ltb j n && held i j)

  abbrev pub in_group : ℕ → ℕ → Bool
  in_group k i = ltb k groups && (ltb i n && together held (lowest k) i)

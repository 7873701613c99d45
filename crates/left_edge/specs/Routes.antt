-- What the spans of a channel's nets must be (document 02, T-04), whatever the rule by which a net crosses a column.
-- Assumes nothing.
use Rattle.std.specs.Prelude.{ℕ, suc, ◌≤◌, ◌<◌, ◌≡◌, ◌↔◌, List, [], map, Bool, true, false, ◌&&◌, eqb}
use Rattle.channel.specs.Density.{any, weight_of, maximum_to}
use Rattle.left_edge.specs.declared.Span.{Span}
use Rattle.left_edge.specs.Lists.{Each, Pairwise, EachAfter}
use Rattle.left_edge.specs.Method.{greatest}

-- columns 1 to l, and the rule by which a net crosses one of them
module _ (l : ℕ) (crossing : ℕ → ℕ → Bool) where
  -- "nets on one track share no column"
  abbrev pub Clear : Span → Span → Type 0
  Clear x y = x.track ≡ y.track → (c : ℕ) → 1 ≤ c → c ≤ l → (crossing x.net c && crossing y.net c) ≡ false

  -- "Nets that cross nothing get track 0", and no others
  abbrev pub Zero : Span → Type 0
  Zero x = (x.track ≡ 0) ↔ ((c : ℕ) → 1 ≤ c → c ≤ l → crossing x.net c ≡ false)

  -- "each on the lowest free track": on each track below its own, one before it crosses its left end
  abbrev pub Lowest : List Span → Span → Type 0
  Lowest before x =
      (t : ℕ) → 1 ≤ t → t < x.track → any (λ (y : Span). eqb y.track t && crossing y.net x.left) before ≡ true

  -- the spans xs of the nets ns
  pub record Routes (ns : List ℕ) (xs : List Span) : Type 0 where
    pub nets : map (λ (x : Span). x.net) xs ≡ ns
    pub number : greatest xs ≡ maximum_to l (λ (c : ℕ). weight_of (λ (n : ℕ). crossing n c) ns)
    pub used : (t : ℕ) → t < greatest xs → any (λ (x : Span). eqb x.track (suc t)) xs ≡ true
    pub apart : Pairwise Clear xs
    pub zero : Each Zero xs
    pub lowest : EachAfter Lowest [] xs

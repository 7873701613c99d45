-- Laws of the loads of a cut: what is put in is read again, and the loads of every other cut are as they were.
-- Assumes nothing.
use Rattle.std.proofs.Common.{ℕ, ◌+◌, ◌≤◌, ◌≡◌, ◌∙◌, ap, List, arith, add-zero, length, get_or, set, length-set, get_or-set_same, get_or-set_other}
use Rattle.arrays.specs.Rules.{pins}
use Rattle.arrays.specs.Loads.{load_rows, cut_place, load_at, put_loads}

pub length-put_loads : (loads : List ℕ) (i j top bottom both : ℕ) → length (put_loads loads i j top bottom both) ≡ length loads
length-put_loads loads i j top bottom both = simp length-set

module _ (loads : List ℕ) (i j top bottom both : ℕ) (few : j ≤ pins) where
  -- the first load is in, and the second
  one : List ℕ
  one = set loads (cut_place i j) top

  two : List ℕ
  two = set one (cut_place i j + 1) bottom

  module _ (room : load_rows (i + 1) ≤ length loads) where
    pub top-put : load_at (put_loads loads i j top bottom both) i j 0 ≡ top
    unfolding one two
    top-put =
        ap (λ (k : ℕ). get_or (put_loads loads i j top bottom both) k 0) (add-zero (cut_place i j))
        ∙ get_or-set_other two (cut_place i j + 2) (cut_place i j) both 0 (λ e. omega arith)
        ∙ get_or-set_other one (cut_place i j + 1) (cut_place i j) bottom 0 (λ e. omega arith)
        ∙ get_or-set_same loads (cut_place i j) top 0 (omega arith)

    pub bottom-put : load_at (put_loads loads i j top bottom both) i j 1 ≡ bottom
    unfolding one two
    bottom-put =
        get_or-set_other two (cut_place i j + 2) (cut_place i j + 1) both 0 (λ e. omega arith)
        ∙ get_or-set_same one (cut_place i j + 1) bottom 0 (simp length-set (omega arith))

    pub both-put : load_at (put_loads loads i j top bottom both) i j 2 ≡ both
    unfolding one two
    both-put = get_or-set_same two (cut_place i j + 2) both 0 (simp length-set (omega arith))

  -- another cut
  pub load-put_other :
      (x y letter : ℕ) → y ≤ pins → letter ≤ 2 → (x ≡ i → y ≡ j → ⊥)
      → load_at (put_loads loads i j top bottom both) x y letter ≡ load_at loads x y letter
  unfolding one two
  load-put_other x y letter fits one_of_lem other =
      get_or-set_other two (cut_place i j + 2) (cut_place x y + letter) both 0 (λ e. other (omega arith) (omega arith))
      ∙ get_or-set_other one (cut_place i j + 1) (cut_place x y + letter) bottom 0 (λ e. other (omega arith) (omega arith))
      ∙ get_or-set_other loads (cut_place i j) (cut_place x y + letter) top 0 (λ e. other (omega arith) (omega arith))

-- Laws of the walk's choices: what each question to the table says.
-- Assumes nothing.
use Rattle.std.proofs.Common.{ℕ, zero, suc, ◌-◌, ◌≤◌, ◌<◌, min, ◌≡◌, refl, sym, ap, ◌∙◌, List, Bool, true, false, ◌&&◌, arith, leb, ltb, eqb, le-leb, lt-ltb}
use Rattle.std.proofs.Math.Bool.{or-false}
use Rattle.std.proofs.Math.Dec.{leb-zero}
use Rattle.std.proofs.lemmas.Bool.{lt-leb}
use Rattle.channel.specs.Below.{any_below}
use Rattle.channel.proofs.Below.{any_below_cong}
use Rattle.bits.specs.Bits.{bit_of}
use Rattle.bits.proofs.Laws.{bit_zero, word_cong}
use Rattle.table.specs.Planes.{held_at, meeting}
use Rattle.letters.specs.declared.Progress.{Progress}
use Rattle.walk.specs.declared.Walk.{Walk}
use Rattle.walk.specs.Walk.{steps_to, stands_at, lefts, row_fits, row_meets, some_left, some_here, empty_meets, top_meets}
use Rattle.walk.specs.Walk.{empty_fits, top_fits, bottom_fits, choice_in}

-- the questions of a walk, from where it has come
module _ (v : Walk) (m : Progress) where
  abbrev work : List ℕ
  work = v.work.now

  abbrev rules : List ℕ
  rules = v.rules.now.words

  abbrev row : (ℕ → Bool) → ℕ → Bool
  row = row_meets work rules v.grid v.p m

  abbrev empty : ℕ → Bool
  empty = empty_meets work rules v.grid v.p m

  abbrev top : ℕ → Bool
  top = top_meets work rules v.grid v.p m

  abbrev bottom : Bool
  bottom = bottom_fits work rules v.grid v.p v.q m

  abbrev choice : ℕ
  choice = choice_in work rules v.grid v.p v.q m

  -- no number is left of the column where all pins are to stand in it or behind
  pub no_lefts : m.c - 1 < m.j → (y : ℕ) → bit_of 0 y ≡ lefts rules v.q m y
  no_lefts h y = rw (lt-leb m.j (m.c - 1) h) (bit_zero y)

  -- the rows asked
  abbrev asked : ℕ → ℕ → ℕ → Bool
  asked low high w = meeting work v.grid m.i m.j low high (stands_at m.i v.p m.top) (steps_to rules 0 m.i v.p) w

  pub rows_left : (w high : ℕ) → m.i ≤ m.c - 1 → high ≡ min (m.c - 1 - m.i) (v.grid.rows - 1) → asked 0 high w ≡ empty w
  unfolding meeting
  rows_left w high h eh =
      rw (le-leb m.i (m.c - 1) h, eh)
      (any_below_cong (suc (min (m.c - 1 - m.i) (v.grid.rows - 1))) (λ (x : ℕ). leb 0 x && row (bit_of w) x) (row (bit_of w))
      (λ x l. rw (leb-zero x)))

  pub row_here : (w : ℕ) → (m.i ≡ 0 → ⊥) → m.i ≤ m.c → m.c - m.i < v.grid.rows → asked (m.c - m.i) (m.c - m.i) w ≡ top w
  unfolding meeting
  row_here w some left inside =
      rw (lt-ltb 0 m.i (omega (arith, some)), le-leb m.i m.c left, lt-ltb (m.c - m.i) v.grid.rows inside)
      (only (m.c - m.i) (row (bit_of w)))
    where
      none : (n r : ℕ) (f : ℕ → Bool) → n ≤ r → any_below n (λ (x : ℕ). leb r x && f x) ≡ false
      none zero r f h = refl
      none (suc n) r f h = rw (lt-leb r n h) (none n r f (omega arith))

      only : (r : ℕ) (f : ℕ → Bool) → any_below (suc r) (λ (x : ℕ). leb r x && f x) ≡ f r
      only r f = rw (le-leb r r (omega arith), none r r f (omega arith)) (or-false (f r))

  -- the questions by a word are the questions by the set that it holds
  module _ (w : ℕ) (f : ℕ → Bool) (same : (y : ℕ) → y < 64 → bit_of w y ≡ f y) where
    row_same : (x : ℕ) → row (bit_of w) x ≡ row f x
    row_same x =
        ap (λ (t : Bool). row_fits work rules v.grid v.p m x && t)
        (word_cong _ _ (λ y l. ap (λ (t : Bool). held_at work v.grid m.i m.j x y && t) (same y l)))

    left_same : empty w ≡ some_left work rules v.grid v.p m f
    left_same =
        ap (λ (t : Bool). leb m.i (m.c - 1) && t)
        (any_below_cong (suc (min (m.c - 1 - m.i) (v.grid.rows - 1))) (row (bit_of w)) (row f) (λ x l. row_same x))

    here_same : top w ≡ some_here work rules v.grid v.p m f
    here_same = ap (λ (t : Bool). ltb 0 m.i && (leb m.i m.c && (ltb (m.c - m.i) v.grid.rows && t))) (row_same (m.c - m.i))

  -- a bottom pin in the column
  pub pin_below :
      (by next w : ℕ) (r : Bool) → (m.j ≡ 0 → ⊥) → m.j ≤ m.c → next ≡ stands_at m.j v.q m.bottom → by ≡ steps_to rules 1 m.j v.q
      → bit_of by (next - (m.c - m.j)) ≡ true → ((y : ℕ) → y < 64 → bit_of w y ≡ eqb y (m.c - m.j)) → r ≡ empty w → r ≡ bottom
  pin_below by next w r some left en eb near same e =
      rw (lt-ltb 0 m.j (omega (arith, some)), le-leb m.j m.c left, rw (en, eb) at near)
      (e ∙ left_same w (λ (y : ℕ). eqb y (m.c - m.j)) same)

  -- the letter, from the answers to the three questions, where the first two are of the numbers left of the column
  module _ (w : ℕ) (same : (y : ℕ) → y < 64 → bit_of w y ≡ lefts rules v.q m y) where
    empty_says : {t : Bool} → empty w ≡ t → empty_fits work rules v.grid v.p v.q m ≡ t
    empty_says h = sym (left_same w (lefts rules v.q m) same) ∙ h

    top_says : {t : Bool} → top w ≡ t → top_fits work rules v.grid v.p v.q m ≡ t
    top_says h = sym (here_same w (lefts rules v.q m) same) ∙ h

    pub chose_empty : empty w ≡ true → 0 ≡ choice
    unfolding choice_in
    chose_empty e = rw (empty_says e)

    pub chose_top : empty w ≡ false → top w ≡ true → 1 ≡ choice
    unfolding choice_in
    chose_top e t = rw (empty_says e, top_says t)

    pub chose_bottom : empty w ≡ false → top w ≡ false → bottom ≡ true → 2 ≡ choice
    unfolding choice_in
    chose_bottom e t b = rw (empty_says e, top_says t, b)

    pub chose_both : empty w ≡ false → top w ≡ false → bottom ≡ false → 3 ≡ choice
    unfolding choice_in
    chose_both e t b = rw (empty_says e, top_says t, b)

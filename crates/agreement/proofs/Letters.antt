-- Over a filled table, the letter that the walk chooses for a column is the model's.
-- Assumes nothing.
use Rattle.std.proofs.Common.{ℕ, zero, suc, min, ◌+◌, ◌-◌, ◌≤◌, ◌<◌, ◌≡◌, refl, sym, ◌∙◌, ap, ap₂, List, Bool, true, false, cond, ◌&&◌, ◌||◌, arith, add-one, length, leb, ltb, eqb, leb-true, le-leb, ltb-true, lt-ltb, eqb-true, eq-eqb}
use Rattle.std.proofs.Math.Bool.{and_comm, and_assoc, and-eq-true_iff}
use Rattle.std.proofs.Math.Path.{fun_ext}
use Rattle.std.proofs.lemmas.Bool.{eqb-false}
use Rattle.std.specs.Cmp.{both_ways}
use Rattle.channel.specs.Below.{any_below}
use Rattle.channel.proofs.Below.{any_below_to, any_below-and, any_below_turn}
use Rattle.channel.specs.Sheet.{Terminal, Sheet}
use Rattle.channel.specs.Word.{Letter, rank, has_top, has_bottom}
use Rattle.channel.specs.Word.Letter.{empty, top, bottom}
use Rattle.bits.specs.Bits.{bit_of, in_word}
use Rattle.bits.proofs.Laws.{bit-full, word-from}
use Rattle.table.specs.Planes.{held_at}
use Rattle.reach.specs.Reach.{near, reach}
use Rattle.reach.specs.Greedy.{next, last_at, smallest_of, letter_fits, choice}
use Rattle.reach.proofs.Bounds.{Held, reach-held}
use Rattle.pass.specs.declared.plan.Plan.{Plan}
use Rattle.letters.specs.declared.Progress.{Progress}
use Rattle.rules.specs.Sides.{SideRules}
use Rattle.walk.specs.Walk.{steps_to, stands_at, number_fits, lefts, row_fits, row_meets, some_left}
use Rattle.walk.specs.Walk.{some_here, empty_fits, top_fits, bottom_fits, choice_in}
use Rattle.agreement.specs.Ready.{Ready}
use Rattle.agreement.proofs.Feasible.{same_columns, row_there, some_row, number_there}

-- One side of a walk that has c columns left: of n pins i are still to be placed, the others have columns behind c, up to l, and
-- the one placed last stands in x
pub record OnSide (n l c i x : ℕ) : Type 0 where
  pub few : i ≤ n
  pub room : c + (n - i) ≤ l
  pub last : i < n → (c < x) × (x ≤ l)

-- a test with a part that follows from the whole
guarded : (a r g : Bool) → (a ≡ true → r ≡ g) → (g ≡ true → a ≡ true) → (a && r) ≡ g
guarded true r g same follows = same refl
guarded false r true same follows = follows refl
guarded false r false same follows = refl

-- the number of the smallest letter of which its test holds
pub ranks : (e t b : Bool) → cond e 0 (cond t 1 (cond b 2 3)) ≡ rank (smallest_of e t b)
ranks true t b = refl
ranks false true b = refl
ranks false false true = refl
ranks false false false = refl

-- where the last pin stands in a column, there is a pin
some_pin_lem : (i c : ℕ) → Held i (suc c) → 0 < i
some_pin_lem zero c h = absurd (omega (arith, h.none refl))
some_pin_lem (suc i) c h = omega arith

-- the table's word of steps says whether the last of i pins, in column x + i, is far enough from the next one, in `at`
side-next :
    {side : ℕ} {ts : List Terminal} {rules : List ℕ} → SideRules side ts rules → (n l c i x at : ℕ) → n ≡ length ts → l ≤ 64
    → OnSide n l c i at → x + i ≤ c → bit_of (steps_to rules side i n) (stands_at i n at - x) ≡ next ts i (x + i) at
side-next {side} {ts} {rules} r n l c i x at all small on h =
    by-test (eqb i n) refl ∙ ap (λ (k : ℕ). eqb i k || near ts (suc i) (x + i) at) all
  where
    by-test :
        (t : Bool) → eqb i n ≡ t
        → bit_of (steps_to rules side i n) (stands_at i n at - x) ≡ (eqb i n || near ts (suc i) (x + i) at)
    by-test true e = rw e (bit-full (63 - x) (omega arith))
    by-test false e =
        let left : i < n = omega (arith, on.few, eqb-false i n e) in
        let (a, b) = on.last left in
        rw (e, add-one i)
        (r.range (suc i) (at - suc i - x) (x + i) (omega arith) (omega arith) (omega arith)
        ∙ ap (near ts (suc i) (x + i)) (omega arith))

-- a test of the numbers of a word of which only k counts
word_at : (f : ℕ → Bool) (k : ℕ) → k < 64 → in_word (λ (y : ℕ). f y && eqb y k) ≡ f k
unfolding in_word
word_at f k h =
    both_ways (in_word (λ (y : ℕ). f y && eqb y k)) (f k)
    (λ e.
    let (y, l, m) = any_below_to 64 (λ (y : ℕ). f y && eqb y k) e in
    let (holds, same) = (and-eq-true_iff (f y) (eqb y k)).0 m in
    rw (eqb-true y k same) at holds)
    (λ e. word-from (λ (y : ℕ). f y && eqb y k) k h (rw (e, eq-eqb k k refl)))

-- a part of a test that does not depend on the column
last_at-and : (h : Bool) (c : ℕ) (a : Bool) (f : ℕ → Bool) → (a && last_at h c f) ≡ last_at h c (λ (v : ℕ). a && f v)
last_at-and true c a f = refl
last_at-and false c a f = any_below-and a (suc c) f

-- the model's test of a letter, with the test of each pin where its column is chosen
letter_fits_nested :
    (s : Sheet) (d c i j x y : ℕ) (a : Letter)
    → letter_fits s d c i j x y a
    ≡ last_at (has_top a) c
    (λ (u : ℕ). next s.top i u x && last_at (has_bottom a) c (λ (v : ℕ). next s.bottom j v y && reach s d i j u v))
unfolding letter_fits
letter_fits_nested s d c i j x y a =
    ap (last_at (has_top a) c)
    (fun_ext
    (λ u.
    ap (last_at (has_bottom a) c)
    (fun_ext
    (λ v.
    and_comm (reach s d i j u v) (next s.top i u x && next s.bottom j v y)
    ∙ and_assoc (next s.top i u x) (next s.bottom j v y) (reach s d i j u v)))
    ∙ sym (last_at-and (has_bottom a) c (next s.top i u x) (λ (v : ℕ). next s.bottom j v y && reach s d i j u v))))

-- the table's places are the model's, wherever a row and a number have one
abbrev pub Reaches : Sheet → ℕ → Plan → List ℕ → Type 0
Reaches s d n work =
    (i j x y : ℕ) → i ≤ n.p → j ≤ n.q → x < n.grid.rows → y < 64
    → held_at work n.grid i j x y ≡ reach s d i j (x + i) (y + j)

-- a walk with c + 1 columns left
module _
    (s : Sheet) (rules loads : List ℕ) (n : Plan) (ready : Ready s rules loads n) (d : ℕ) (work : List ℕ) (cells : Reaches s d n work)
    (c i j x y : ℕ) (tops : OnSide n.p n.l (suc c) i x) (bottoms : OnSide n.q n.l (suc c) j y)
  where
    -- where it has come to
    abbrev mark : Progress
    mark = record { c = suc c; i = i; j = j; top = x; bottom = y }

    small : n.l ≤ 64
    small = omega (arith, ready.l, ready.sound.columns)

    -- the last top pin in row t, and the last bottom pin at number t, is far enough from the next one
    row_next : (t : ℕ) → t + i ≤ suc c → row_fits work rules n.grid n.p mark t ≡ next s.top i (t + i) x
    row_next t h = side-next ready.top n.p n.l (suc c) i t x ready.p small tops h

    number-next : (t : ℕ) → t + j ≤ suc c → number_fits rules n.q mark t ≡ next s.bottom j (t + j) y
    number-next t h = side-next ready.bottom n.q n.l (suc c) j t y ready.q small bottoms h

    -- the numbers left of the column are columns left of it
    lefts-column : (t : ℕ) → lefts rules n.q mark t ≡ true → t + j ≤ c
    lefts-column t e =
        let near? : Bool = number_fits rules n.q mark t in
        let (a, b) = (and-eq-true_iff (leb j (suc c - 1)) (leb t (suc c - 1 - j) && near?)).0 e in
        let (f, g) = (and-eq-true_iff (leb t (suc c - 1 - j)) near?).0 b in
        omega (arith, leb-true j (suc c - 1) a, leb-true t (suc c - 1 - j) f)

    -- the last bottom pin in one of the columns up to c
    numbers-left :
        (r : ℕ) → r < n.grid.rows
        → in_word (λ (t : ℕ). held_at work n.grid i j r t && lefts rules n.q mark t)
        ≡ any_below (suc c) (λ (v : ℕ). next s.bottom j v y && reach s d i j (r + i) v)
    unfolding in_word
    numbers-left r h =
        same_columns 64 j c _ (λ (v : ℕ). next s.bottom j v y && reach s d i j (r + i) v)
        (λ t k l.
        rw (
          le-leb j (suc c - 1) (omega arith),
          le-leb t (suc c - 1 - j) (omega arith),
          number-next t (omega arith),
          cells i j r t tops.few bottoms.few h k,
        )
        (and_comm (reach s d i j (r + i) (t + j)) (next s.bottom j (t + j) y)))
        (λ t k e. lefts-column t ((and-eq-true_iff (held_at work n.grid i j r t) (lefts rules n.q mark t)).0 e).1)
        (λ v k e.
        let stands : Held j v = (reach-held s d i j (r + i) v ((and-eq-true_iff (next s.bottom j v y) _).0 e).1).1 in
        (stands.room, number_there s rules loads n ready j v (omega (arith, bottoms.room)) stands))

    -- the last bottom pin in column c + 1
    number-here :
        (r : ℕ) → r < n.grid.rows → 0 < j → j ≤ suc c
        → in_word (λ (t : ℕ). held_at work n.grid i j r t && eqb t (suc c - j)) ≡ reach s d i j (r + i) (suc c)
    number-here r h k l =
        let column : suc c - j + j ≡ suc c = omega arith in
        let narrow : suc c - j < 64 = omega (arith, bottoms.room, small) in
        word_at (held_at work n.grid i j r) (suc c - j) narrow
        ∙ cells i j r (suc c - j) tops.few bottoms.few h narrow
        ∙ ap (reach s d i j (r + i)) column

    -- with the last top pin in column u, the set f of numbers is met exactly when `more` holds of u, which it does only of columns
    -- that i pins have
    module _
        (f more : ℕ → Bool)
        (met : (r : ℕ) → r < n.grid.rows → in_word (λ (t : ℕ). held_at work n.grid i j r t && f t) ≡ more (r + i))
        (holds : (u : ℕ) → more u ≡ true → Held i u)
      where
        -- a row that meets it
        row_same :
            (r : ℕ) → r < n.grid.rows → r + i ≤ suc c
            → row_meets work rules n.grid n.p mark f r ≡ (next s.top i (r + i) x && more (r + i))
        row_same r h k = ap₂ (λ (a b : Bool). a && b) (row_next r k) (met r h)

        -- some column up to c
        left_same :
            some_left work rules n.grid n.p mark f ≡ any_below (suc c) (λ (u : ℕ). next s.top i u x && more u)
        left_same =
            let there : 0 < n.grid.rows = some_row s rules loads n ready in
            any_below-and (leb i (suc c - 1)) rows (row_meets work rules n.grid n.p mark f)
            ∙ same_columns rows i c (λ (r : ℕ). leb i (suc c - 1) && row_meets work rules n.grid n.p mark f r)
            (λ (u : ℕ). next s.top i u x && more u)
            (λ r h k. rw (le-leb i (suc c - 1) (omega arith)) (row_same r (omega arith) (omega arith)))
            (λ r h e.
            let l : i ≤ suc c - 1 =
            leb-true i (suc c - 1) ((and-eq-true_iff (leb i (suc c - 1)) (row_meets work rules n.grid n.p mark f r)).0 e).0 in
            omega arith)
            (λ u h e.
            let stands : Held i u = holds u ((and-eq-true_iff (next s.top i u x) (more u)).0 e).1 in
            let l : u - i < n.grid.rows = row_there s rules loads n ready i u tops.few stands (omega (arith, tops.room)) in
            (stands.room, omega arith))
          where
            rows : ℕ
            rows = suc (min (suc c - 1 - i) (n.grid.rows - 1))

        -- the column c + 1
        here_same : some_here work rules n.grid n.p mark f ≡ (next s.top i (suc c) x && more (suc c))
        here_same =
            guarded (ltb 0 i) _ there
            (λ a. guarded (leb i (suc c)) _ there
            (λ b. guarded (ltb (suc c - i) n.grid.rows) _ there
            (λ e.
            let column : suc c - i + i ≡ suc c = omega (arith, leb-true i (suc c) b) in
            rw column at (row_same (suc c - i) (ltb-true (suc c - i) n.grid.rows e) (omega arith)))
            (λ m. lt-ltb (suc c - i) n.grid.rows (row_there s rules loads n ready i (suc c) tops.few (stand m) tops.room)))
            (λ m. le-leb i (suc c) (stand m).room))
            (λ m. lt-ltb 0 i (some_pin_lem i c (stand m)))
          where
            there : Bool
            there = next s.top i (suc c) x && more (suc c)

            stand : there ≡ true → Held i (suc c)
            stand m = holds (suc c) ((and-eq-true_iff (next s.top i (suc c) x) (more (suc c))).0 m).1

    -- the last bottom pin has a place left of the column, where the last top pin stands in u
    abbrev at_bottom : ℕ → ℕ → Bool
    at_bottom u v = next s.bottom j v y && reach s d i j u v

    abbrev some_bottom : ℕ → Bool
    some_bottom u = any_below (suc c) (at_bottom u)

    bottom-held : (u : ℕ) → some_bottom u ≡ true → Held i u
    bottom-held u e =
        let (v, h, m) = any_below_to (suc c) (at_bottom u) e in
        (reach-held s d i j u v ((and-eq-true_iff (next s.bottom j v y) (reach s d i j u v)).0 m).1).0

    -- the column can be empty
    empty-same : empty_fits work rules n.grid n.p n.q mark ≡ letter_fits s d c i j x y empty
    empty-same =
        left_same (lefts rules n.q mark) some_bottom numbers-left bottom-held ∙ sym (letter_fits_nested s d c i j x y empty)

    -- it can hold a top pin alone
    top-same : top_fits work rules n.grid n.p n.q mark ≡ letter_fits s d c i j x y top
    top-same =
        here_same (lefts rules n.q mark) some_bottom numbers-left bottom-held ∙ sym (letter_fits_nested s d c i j x y top)

    -- it can hold a bottom pin alone
    bottom-same : bottom_fits work rules n.grid n.p n.q mark ≡ letter_fits s d c i j x y bottom
    bottom-same =
        guarded (ltb 0 j) _ there
        (λ a. guarded (leb j (suc c)) _ there
        (λ b.
        let k : 0 < j = ltb-true 0 j a in
        let l : j ≤ suc c = leb-true j (suc c) b in
        let column : suc c - j + j ≡ suc c = omega arith in
        ap₂ (λ (p q : Bool). p && q) (number-next (suc c - j) (omega arith) ∙ ap (λ (v : ℕ). next s.bottom j v y) column)
        (left_same (λ (t : ℕ). eqb t (suc c - j)) (λ (u : ℕ). reach s d i j u (suc c)) (λ r h. number-here r h k l)
        (λ u m. (reach-held s d i j u (suc c) m).0))
        ∙ any_below_turn (next s.bottom j (suc c) y) true (suc c) (λ (u : ℕ). next s.top i u x) (λ (u : ℕ). reach s d i j u (suc c)))
        (λ m. le-leb j (suc c) (stand m).room))
        (λ m. lt-ltb 0 j (some_pin_lem j c (stand m)))
        ∙ sym (letter_fits_nested s d c i j x y bottom)
      where
        at_top : ℕ → Bool
        at_top u = next s.top i u x && (next s.bottom j (suc c) y && reach s d i j u (suc c))

        there : Bool
        there = any_below (suc c) at_top

        stand : there ≡ true → Held j (suc c)
        stand m =
            let (u, h, e) = any_below_to (suc c) at_top m in
            let pin : (next s.bottom j (suc c) y && reach s d i j u (suc c)) ≡ true =
            ((and-eq-true_iff (next s.top i u x) (next s.bottom j (suc c) y && reach s d i j u (suc c))).0 e).1 in
            (reach-held s d i j u (suc c) ((and-eq-true_iff (next s.bottom j (suc c) y) (reach s d i j u (suc c))).0 pin).1).1

    -- so the letter is the model's
    pub choice-in : choice_in work rules n.grid n.p n.q mark ≡ rank (choice s d c i j x y)
    unfolding choice_in choice
    choice-in =
        rw (empty-same, top-same, bottom-same)
        (ranks (letter_fits s d c i j x y empty) (letter_fits s d c i j x y top) (letter_fits s d c i j x y bottom))

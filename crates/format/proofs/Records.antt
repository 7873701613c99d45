-- Laws of the terminals in a section and of the parts of a sheet's bytes: which terminals there are, and how many.
-- Assumes nothing.
use Rattle.std.proofs.Common.{◌≡◌, ℕ, zero, suc, ◌+◌, ◌-◌, ◌*◌, ◌/◌, ◌<◌, ◌≤◌, min, Bool, true, false, ltb, List, [], ◌∷◌, length, get_or, take, drop, sym, refl, ap, ap₂, add_assoc, ◌∙◌, zero-add, arith, length-drop, drop_of_length-le, length-take-le, take_all, ltb-false, ltb-true}
use Rattle.std.proofs.Math.ListN.{get_or-eq_default}
use Rattle.std.proofs.Math.Nat.{mul-div_right}
use Rattle.std.proofs.lemmas.List.{get_or-drop, get_or-take}
use Rattle.channel.specs.Sheet.{Terminal, no_terminal}
use Rattle.terminal.specs.declared.Record.{Record}
use Rattle.terminal.specs.Terminal.{record_of}
use Rattle.little.specs.Little.{little}
use Rattle.trailer.specs.declared.Part.{Part}
use Rattle.format.specs.Format.{record_size, terminal_at, terminals_from}
use Rattle.format.specs.Parts.{bytes_of, terminals_in}

-- a record with 0 in each field is that of no terminal
pub zero_record : (r : Record) → (r.net ≡ 0) × ((r.least ≡ 0) × ((r.greatest ≡ 0) × (r.allowed ≡ 0))) → r ≡ record_of no_terminal
zero_record r (net, (least, (greatest, allowed))) =
    let whole : r ≡ record { net = r.net; least = r.least; greatest = r.greatest; allowed = r.allowed } = refl in
    whole ∙ rw (net, least, greatest, allowed)

-- there are as many records as asked for
length-terminals : (b : List ℕ) (i n : ℕ) → length (terminals_from b i n) ≡ n
unfolding terminals_from
length-terminals b i zero = refl
length-terminals b i (suc n) = ap suc (length-terminals b (i + record_size) n)

-- and the k-th of them stands behind k records
nth_terminal : (b : List ℕ) (i n k : ℕ) → k < n → terminal_at b (i + record_size * k) ≡ get_or (terminals_from b i n) k no_terminal
unfolding terminals_from
nth_terminal b i zero k h = elim h [ ]
nth_terminal b i (suc n) zero h = ap (terminal_at b) (omega arith)
nth_terminal b i (suc n) (suc k) h = ap (terminal_at b) (omega arith) ∙ nth_terminal b (i + record_size) n k (omega arith)

-- of any bytes there are as many as there is room for
pub length-terminals_in : (b : List ℕ) → length b / record_size ≡ length (terminals_in b)
unfolding terminals_in
length-terminals_in b = sym (length-terminals b 0 (length b / record_size))

-- each of these, and none behind them
pub terminal_there : (b : List ℕ) (i : ℕ) → i < length b / record_size → terminal_at b (record_size * i) ≡ get_or (terminals_in b) i no_terminal
unfolding terminals_in
terminal_there b i h = ap (terminal_at b) (sym (zero-add (record_size * i))) ∙ nth_terminal b 0 (length b / record_size) i h

pub terminal_none : (b : List ℕ) (i : ℕ) → length b / record_size ≤ i → no_terminal ≡ get_or (terminals_in b) i no_terminal
terminal_none b i h = sym (get_or-eq_default (terminals_in b) no_terminal (rw (← length-terminals_in b) h))

-- a number behind so many bytes is that of the bytes from there on, and one within so many of these alone
little_drop : (k n : ℕ) (b : List ℕ) (i : ℕ) → little n (drop k b) i ≡ little n b (k + i)
unfolding little
little_drop k zero b i = refl
little_drop k (suc n) b i =
    ap₂ (λ (v w : ℕ). v + 256 * w) (get_or-drop k b i 0) (little_drop k n b (suc i) ∙ ap (little n b) (omega arith))

little_take : (k n : ℕ) (b : List ℕ) (i : ℕ) → i + n ≤ k → little n (take k b) i ≡ little n b i
unfolding little
little_take k zero b i h = refl
little_take k (suc n) b i h = ap₂ (λ (v w : ℕ). v + 256 * w) (get_or-take k b i 0 (omega arith)) (little_take k n b (suc i) (omega arith))

-- and so it is with records
record_drop : (k : ℕ) (b : List ℕ) (i : ℕ) → terminal_at (drop k b) i ≡ terminal_at b (k + i)
unfolding terminal_at
record_drop k b i =
    rw (
      little_drop k 2 b i,
      get_or-drop k b (i + 2) 0,
      get_or-drop k b (i + 3) 0,
      little_drop k 8 b (i + 4),
      add_assoc k i 2,
      add_assoc k i 3,
      add_assoc k i 4,
    )

record_take : (b : List ℕ) → terminal_at (take record_size b) 0 ≡ terminal_at b 0
unfolding terminal_at
record_take b =
    rw (
      little_take record_size 2 b 0 (omega arith),
      get_or-take record_size b 2 0 (omega arith),
      get_or-take record_size b 3 0 (omega arith),
      little_take record_size 8 b 4 (omega arith),
    )

from_drop : (k : ℕ) (b : List ℕ) (i n : ℕ) → terminals_from (drop k b) i n ≡ terminals_from b (k + i) n
unfolding terminals_from
from_drop k b i zero = refl
from_drop k b i (suc n) =
    ap₂ (λ (t : Terminal) (ts : List Terminal). t ∷ ts) (record_drop k b i)
    (from_drop k b (i + record_size) n ∙ ap (λ (j : ℕ). terminals_from b j n) (omega arith))

-- the terminals of bytes that hold a record are that of the first and those of what is behind it
pub first_terminal : (b : List ℕ) → record_size ≤ length b → terminals_in b ≡ terminal_at (take record_size b) 0 ∷ terminals_in (drop record_size b)
unfolding terminals_in terminals_from
first_terminal b h =
    let more : length b / record_size ≡ suc (length (drop record_size b) / record_size) = rw length-drop (omega arith) in
    rw (more, record_take b, from_drop record_size b 0 (length (drop record_size b) / record_size))

-- and shorter bytes have none
pub no_terminal_left : (b : List ℕ) → length b < record_size → terminals_in b ≡ []
unfolding terminals_in terminals_from
no_terminal_left b h = let none : length b / record_size ≡ 0 = omega arith in rw none

-- a part that lies in the bytes has as many terminals as it says
pub part_terminals :
    (b : List ℕ) (part : Part) → part.at + record_size * part.count ≤ length b → length (terminals_in (bytes_of b part)) ≡ part.count
unfolding bytes_of
part_terminals b part h =
    let size : length (bytes_of b part) ≡ record_size * part.count = length-take-le _ _ (rw length-drop (omega arith)) in
    sym (length-terminals_in (bytes_of b part)) ∙ ap (λ (n : ℕ). n / record_size) size ∙ mul-div_right part.count (omega arith)

-- a list is taken whole by any number from its length on
take_past : (l : List ℕ) (m n : ℕ) → min m (length l) ≡ min n (length l) → take m l ≡ take n l
take_past [] m n h = take_all {A = ℕ} m [] (omega arith) ∙ sym (take_all {A = ℕ} n [] (omega arith))
take_past (x ∷ l) zero zero h = refl
take_past (x ∷ l) zero (suc n) h = absurd (omega arith)
take_past (x ∷ l) (suc m) zero h = absurd (omega arith)
take_past (x ∷ l) (suc m) (suc n) h = ap (λ (r : List ℕ). x ∷ r) (take_past l m n (omega arith))

-- a part that is cut off at the end of the bytes: so many of them, from where it starts
pub part_cut :
    (b : List ℕ) (part : Part) (at end : ℕ) → at ≡ min part.at (length b) → end ≡ min (at + record_size * part.count) (length b)
    → take (end - at) (drop at b) ≡ bytes_of b part
unfolding bytes_of
part_cut b part at end e f = by-test (ltb part.at (length b)) refl
  where
    inside : part.at ≤ length b → take (end - at) (drop at b) ≡ take (record_size * part.count) (drop part.at b)
    inside h =
        let here : at ≡ part.at = omega arith in
        let size : length (drop part.at b) ≡ length b - part.at = length-drop part.at b in
        rw here (take_past (drop part.at b) (end - part.at) (record_size * part.count) (omega arith))

    by-test : (t : Bool) → ltb part.at (length b) ≡ t → take (end - at) (drop at b) ≡ take (record_size * part.count) (drop part.at b)
    by-test true h = inside (omega (arith, ltb-true part.at (length b) h))
    by-test false h =
        let behind : length b ≤ part.at = ltb-false part.at (length b) h in
        let last : length b ≤ at = omega arith in
        rw (drop_of_length-le b last, drop_of_length-le b behind) (take_past [] (end - at) (record_size * part.count) (omega arith))

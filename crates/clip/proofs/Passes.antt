-- Why the two passes over a side's pins do what they say, pin by pin.
-- Assumes nothing.
use Rattle.std.proofs.Common.{ℕ, suc, ◌^◌, ◌≤◌, ◌<◌, ◌≡◌, refl, sym, ◌∙◌, ap, List, length, length-set, Bool, true, false, not, ◌&&◌, arith, eqb, ltb, eqb-true, ltb-true, ltb-false}
use Rattle.std.proofs.lemmas.Bool.{eqb-false}
use Rattle.channel.specs.declared.Side.{Side}
use Rattle.channel.specs.declared.Side.TheVariants.{Top, Bottom}
use Rattle.bits.specs.Bits.{bit_of, in_word}
use Rattle.bits.proofs.Laws.{bit_high, bit_zero, some_bit, word_none, word-from}
use Rattle.arrays.specs.Rules.{pins, rule_words, side_number, range_at, allowed_at, put_allowed}
use Rattle.arrays.proofs.Rules.{allowed-put_allowed, range-put_allowed, allowed-put_allowed-other}
use Rattle.steps.specs.Stepped.{stepped, stepped_back}
use Rattle.clip.specs.Clip.{SetsAlone, FromLeft, FromRight}

-- nothing is changed
untouched : (side first end : ℕ) (rules : List ℕ) → SetsAlone side first end rules rules
untouched side first end rules = record { kept = refl; ranges = λ b i p l. refl; others = λ b i p l o. refl }

pub left_none : (side n : ℕ) (rules : List ℕ) → n ≤ 1 → FromLeft side n rules rules
left_none side n rules h = record { alone = untouched side 2 (suc n) rules; sets = λ i x p l. absurd (omega arith) }

pub right_none : (side m n : ℕ) (rules : List ℕ) → n ≤ m → FromRight side m n rules rules
right_none side m n rules h = record { alone = untouched side m n rules; sets = λ i x p l. absurd (omega arith) }

-- what is kept of a word
pub kept_bits :
    (a r w : ℕ) (f : ℕ → Bool) → a < 2 ^ 64 → ((x : ℕ) → bit_of w x ≡ (bit_of a x && bit_of r x))
    → ((x : ℕ) → x < 64 → bit_of r x ≡ f x) → (x : ℕ) → bit_of w x ≡ (bit_of a x && f x)
kept_bits a r w f fits both reached x = both x ∙ by-test (ltb x 64) refl
  where
    by-test : (t : Bool) → ltb x 64 ≡ t → (bit_of a x && bit_of r x) ≡ (bit_of a x && f x)
    by-test true e = ap (λ (b : Bool). bit_of a x && b) (reached x (ltb-true x 64 e))
    by-test false e = rw (bit_high a 64 x fits (ltb-false x 64 e))

sides : (s : Side) → side_number s ≤ 1
sides Top = omega arith
sides Bottom = omega arith

-- one pin's set more
module _ (s : Side) (old new : List ℕ) (m w : ℕ) (low : 1 ≤ m) (high : m ≤ pins) where
  abbrev side : ℕ
  side = side_number s

  abbrev after : List ℕ
  after = put_allowed new side m w

  alone_more :
      (first end more far : ℕ) → SetsAlone side first end old new → more ≤ first → end ≤ far → more ≤ m → m < far
      → SetsAlone side more far old after
  alone_more first end more far r lower higher p l = record {
    kept = simp length-set r.kept;
    ranges = λ b i p l. range-put_allowed new side m w low high b i p l ∙ r.ranges b i p l;
    others =
        λ b i q k o.
        allowed-put_allowed-other new side m w low high b i q k (λ e f. o e (omega arith) (omega arith))
        ∙ r.others b i q k (λ e f g. o e (omega arith) (omega arith));
  }

  -- it is in, and no other set is changed
  module _ (size : length after ≡ rule_words) where
    in_place : allowed_at after side m ≡ w
    in_place = allowed-put_allowed new side m w low high (simp length-set at size) (sides s)

    elsewhere : (i : ℕ) → 1 ≤ i → i ≤ pins → (i ≡ m → ⊥) → allowed_at after side i ≡ allowed_at new side i
    elsewhere i p l o = allowed-put_allowed-other new side m w low high side i p l (λ e. o)

    pub left_more :
        (k : ℕ) → m ≡ suc k → 1 ≤ k → FromLeft side k old new
        → ((x : ℕ) → bit_of w x ≡ (bit_of (allowed_at new side m) x && stepped (allowed_at new side k) (range_at new side m) x))
        → FromLeft side m old after
    left_more k next start r kept = record {
      alone = alone_more 2 (suc k) 2 (suc m) r.alone (omega arith) (omega arith) (omega arith) (omega arith);
      sets = λ i x p l. by-test i x p l (eqb i k) refl;
    }
      where
        by-test :
            (i x : ℕ) → 1 ≤ i → i < m → (t : Bool) → eqb i k ≡ t
            → bit_of (allowed_at after side (suc i)) x
            ≡ (bit_of (allowed_at old side (suc i)) x && stepped (allowed_at after side i) (range_at old side (suc i)) x)
        by-test i x p l true e =
            let here : i ≡ k = eqb-true i k e in
            let there : suc i ≡ m = omega arith in
            rw (
              there,
              in_place,
              here,
              elsewhere k start (omega arith) (λ f. omega arith),
              kept x,
              r.alone.others side m low high (λ e f g. omega arith),
              r.alone.ranges side m low high,
            )
        by-test i x p l false e =
            let other = eqb-false i k e in
            rw (elsewhere (suc i) (omega arith) (omega arith) (λ f. omega arith), elsewhere i p (omega arith) (λ f. omega arith))
            (r.sets i x p (omega arith))

    pub right_more :
        (k n : ℕ) → k ≡ suc m → k ≤ n → n ≤ pins → FromRight side k n old new
        → ((x : ℕ) → bit_of w x ≡ (bit_of (allowed_at new side m) x && stepped_back (allowed_at new side k) (range_at new side k) x))
        → FromRight side m n old after
    right_more k n next end few r kept = record {
      alone = alone_more k n m n r.alone (omega arith) (omega arith) (omega arith) (omega arith);
      sets = λ i x p l. by-test i x p l (eqb i m) refl;
    }
      where
        by-test :
            (i x : ℕ) → m ≤ i → i < n → (t : Bool) → eqb i m ≡ t
            → bit_of (allowed_at after side i) x
            ≡ (bit_of (allowed_at old side i) x && stepped_back (allowed_at after side (suc i)) (range_at old side (suc i)) x)
        by-test i x p l true e =
            let here : i ≡ m = eqb-true i m e in
            let there : suc i ≡ k = omega arith in
            rw (
              there,
              here,
              in_place,
              elsewhere k (omega arith) (omega arith) (λ f. omega arith),
              kept x,
              r.alone.others side m low high (λ e f g. omega arith),
              r.alone.ranges side k (omega arith) (omega arith),
            )
        by-test i x p l false e =
            let other = eqb-false i m e in
            rw (elsewhere (suc i) (omega arith) (omega arith) (λ f. omega arith), elsewhere i (omega arith) (omega arith) (λ f. omega arith))
            (r.sets i x (omega arith) l)

-- a word is not 0 exactly when it has a bit
pub some_number : (w : ℕ) → w < 2 ^ 64 → (t : Bool) → eqb w 0 ≡ t → not t ≡ in_word (bit_of w)
some_number w h true e = sym (word_none (bit_of w) (λ k l. rw (eqb-true w 0 e) (bit_zero k)))
some_number w h false e = let (k, l, b) = some_bit w h (eqb-false w 0 e) in sym (word-from (bit_of w) k l b)

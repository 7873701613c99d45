-- Laws of the words of a terminal: what is put in is read again, and the words of every other terminal are as they were.
-- Assumes nothing.
use Rattle.std.proofs.Common.{ℕ, ◌≤◌, ◌≡◌, ◌∙◌, List, arith, length, set, length-set, get_or-set_same, get_or-set_other}
use Rattle.arrays.specs.Rules.{pins, rule_words, range_place, allowed_place, range_at, allowed_at, put_rule, put_allowed}

module _ (rules : List ℕ) (side i w a : ℕ) (low : 1 ≤ i) (high : i ≤ pins) where
  -- the range is in
  half : List ℕ
  half = set rules (range_place side i) w

  module _ (size : length rules ≡ rule_words) (sides : side ≤ 1) where
    pub range-put : range_at (put_rule rules side i w a) side i ≡ w
    unfolding half
    range-put =
        get_or-set_other half (allowed_place side i) (range_place side i) a 0 (λ e. omega arith)
        ∙ get_or-set_same rules (range_place side i) w 0 (omega arith)

    pub allowed-put : allowed_at (put_rule rules side i w a) side i ≡ a
    unfolding half
    allowed-put = get_or-set_same half (allowed_place side i) a 0 (simp length-set (omega arith))

  -- another terminal
  module _ (b n : ℕ) (from : 1 ≤ n) (to : n ≤ pins) (other : b ≡ side → n ≡ i → ⊥) where
    pub range-put-other : range_at (put_rule rules side i w a) b n ≡ range_at rules b n
    unfolding half
    range-put-other =
        get_or-set_other half (allowed_place side i) (range_place b n) a 0 (λ e. omega arith)
        ∙ get_or-set_other rules (range_place side i) (range_place b n) w 0 (λ e. other (omega arith) (omega arith))

    pub allowed-put-other : allowed_at (put_rule rules side i w a) b n ≡ allowed_at rules b n
    unfolding half
    allowed-put-other =
        get_or-set_other half (allowed_place side i) (allowed_place b n) a 0 (λ e. other (omega arith) (omega arith))
        ∙ get_or-set_other rules (range_place side i) (allowed_place b n) w 0 (λ e. omega arith)

-- the allowed set alone
module _ (rules : List ℕ) (side i a : ℕ) (low : 1 ≤ i) (high : i ≤ pins) where
  pub allowed-put_allowed : length rules ≡ rule_words → side ≤ 1 → allowed_at (put_allowed rules side i a) side i ≡ a
  allowed-put_allowed size sides = get_or-set_same rules (allowed_place side i) a 0 (omega arith)

  module _ (b n : ℕ) (from : 1 ≤ n) (to : n ≤ pins) where
    pub range-put_allowed : range_at (put_allowed rules side i a) b n ≡ range_at rules b n
    range-put_allowed = get_or-set_other rules (allowed_place side i) (range_place b n) a 0 (λ e. omega arith)

    pub allowed-put_allowed-other : (b ≡ side → n ≡ i → ⊥) → allowed_at (put_allowed rules side i a) b n ≡ allowed_at rules b n
    allowed-put_allowed-other other =
        get_or-set_other rules (allowed_place side i) (allowed_place b n) a 0 (λ e. other (omega arith) (omega arith))

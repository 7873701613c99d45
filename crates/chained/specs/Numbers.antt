-- The numbers of an answer about chains (document 01, "The refusal list"; document 02, T-06).
-- Assumes nothing.
use Rattle.std.specs.Prelude.{ℕ, ℤ, pos, Result, Ok, Err}
use Rattle.refusals.specs.Lists.{list_number, list_amount}
use Rattle.refusals.specs.Answers.{number_in, amount_in}
use Rattle.chained.specs.declared.Chain.{Chain}
use Rattle.chained.specs.declared.ChainRefusal.{ChainRefusal}
use Rattle.chained.specs.declared.ChainRefusal.TheVariants.{Listed, Circle}

-- the number of each refusal
abbrev pub chain_number : ChainRefusal → ℕ
chain_number (Listed why) = list_number why
chain_number (Circle net) = 19

-- 14 "carries the amount"; all others carry 0
abbrev pub chain_amount : ChainRefusal → ℤ
chain_amount (Listed why) = list_amount why
chain_amount (Circle net) = pos 0

-- 0 without a circle
abbrev pub number_of : Result Chain ChainRefusal → ℕ
number_of answer = number_in chain_number answer

abbrev pub amount_of : Result Chain ChainRefusal → ℤ
amount_of answer = amount_in chain_amount answer

-- "a refusal carries chain 0 and bound 0"
abbrev pub nets_of : Result Chain ChainRefusal → ℕ
nets_of (Ok chain) = chain.nets
nets_of (Err why) = 0

abbrev pub bound_of : Result Chain ChainRefusal → ℕ
bound_of (Ok chain) = chain.bound
bound_of (Err why) = 0

-- 19 comes "with the lowest net number on one; every other answer carries net 0"
abbrev pub circle_net : ChainRefusal → ℕ
circle_net (Listed why) = 0
circle_net (Circle net) = net

abbrev pub net_of : Result Chain ChainRefusal → ℕ
net_of (Ok chain) = 0
net_of (Err why) = circle_net why

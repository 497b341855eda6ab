-- B3: hashsums, the configured digests joined, lowest ID position first.
use Rattle.std.specs.Prelude.{Bool, true, false, cond, List, [], ◌∷◌, ◌++◌, ℕ, ◌+◌, eqb, get_or}
use Rattle.answers.specs.Rules.{Rule, rule}
use Rattle.hashes.specs.Digests.{digest, digest_length}

-- the hashsum of some bytes, by a list of hash IDs; a 0 among them adds nothing (H16)
unfoldable pub hashsum : List ℕ → List ℕ → List ℕ
hashsum [] bytes = []
hashsum (id ∷ ids) bytes = digest id bytes ++ hashsum ids bytes

-- its length
unfoldable pub sum_length : List ℕ → ℕ
sum_length [] = 0
sum_length (id ∷ ids) = digest_length id + sum_length ids

-- H14: an ID is unknown if it is not 0, none, and has no digest
unfoldable pub any_unknown : List ℕ → Bool
any_unknown [] = false
any_unknown (id ∷ ids) = cond (eqb id 0) (any_unknown ids) (cond (eqb (digest_length id) 0) true (any_unknown ids))

-- N6: hash ID unknown, or ID 1 zero (H15)
abbrev pub id_rules : List ℕ → List Rule
id_rules ids = rule 6 (eqb (get_or ids 0 0) 0) ∷ rule 6 (any_unknown ids) ∷ []

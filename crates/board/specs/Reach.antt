-- The mode: how far a range may reach.
use Rattle.std.specs.Prelude.{Bool, not, ◌||◌, cond, List, [], ◌∷◌, ℕ, ◌+◌, ◌^◌, max, eqb, leb}
use Rattle.answers.specs.Rules.{Rule, rule}

-- N1, R1: mode is 32 or 64
abbrev pub mode_rules : ℕ → List Rule
mode_rules mode = rule 1 (not (eqb mode 32 || eqb mode 64)) ∷ []

-- R2: the reach limit of a mode, 32 or 64
abbrev pub limit : ℕ → ℕ
limit mode = cond (eqb mode 32) (2 ^ 32) (2 ^ 52)

-- R3, R4: a range of n bytes at a is reachable if a + n is at most the limit; for n = 0, a must be below it
abbrev pub reachable : ℕ → ℕ → ℕ → Bool
reachable top a n = leb (a + max n 1) top

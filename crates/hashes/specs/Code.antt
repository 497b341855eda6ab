-- What the code's structs, and the 64 bytes lent to it, stand for.
use Rattle.std.specs.Prelude.{ℕ, ◌-◌, List, ◌++◌, length, replicate}
use Rattle.hashes.specs.declared.compress.State.{State}
use Rattle.hashes.specs.Widths.{Width, Eight, in_order}
use Rattle.hashes.specs.Compression.{joined}

-- the eight words of a state
abbrev pub words : {W : Type 0} → (W → ℕ) → State W → Eight
words value s =
    record {
      a = value s.a;
      b = value s.b;
      c = value s.c;
      d = value s.d;
      e = value s.e;
      f = value s.f;
      g = value s.g;
      h = value s.h;
    }

-- the same, where the words are numbers of the machine
abbrev pub plain : State ℕ → Eight
plain = words (λ n. n)

-- bytes, and zeros up to 64
abbrev pub in_sixty_four : List ℕ → List ℕ
in_sixty_four s = s ++ replicate (64 - length s) 0

-- the first n words of a hash value as bytes, and zeros up to 64
abbrev pub first_words : Width → Eight → ℕ → List ℕ
first_words P v n = in_sixty_four (joined P (in_order v) n)

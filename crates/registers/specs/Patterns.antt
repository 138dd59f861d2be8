-- The line pattern's state (01, Pixels): "The pattern state is a place and a repeat".
use Rattle.std.specs.Prelude.{◌≡◌, Bool, true, cond, ◌&&◌, ℕ, ◌+◌, ◌/◌, ◌%◌, ◌^◌, eqb, ltb}
use Rattle.lemmas.specs.Turns.{in_turn}
use Rattle.entries.specs.Fields.{pattern_control_of}
use Rattle.entries.specs.Legality.{pctrl_legal}
use Rattle.entries.specs.declared.fields.PatternControl.{PatternControl}
use Rattle.registers.specs.declared.dashes.Pattern.{Pattern}

-- "SPTR and SSCL on writing PCTRL, and at a line's trigger with PRST"
abbrev pub start_of : PatternControl → Pattern
start_of c = record { place = c.place; repeat = c.repeat }

-- The bit of LPAT at the place, bit 0 the first (000, LPAT); there is none above bit 31.
unfoldable pub pattern_bit : ℕ → Pattern → Bool
pattern_bit lpat p = eqb (lpat / 2 ^ p.place % 2) 1

-- "repeat + 1; at the scale, repeat 0 and place + 1; at the length, place 0"
unfoldable pub next_of : PatternControl → Pattern → Pattern
next_of c p =
    cond (ltb (p.repeat + 1) c.scale) (record { place = p.place; repeat = p.repeat + 1 })
    (record { place = cond (ltb (p.place + 1) c.length) (p.place + 1) 0; repeat = 0 })

-- n pixels on.
abbrev pub moves_of : PatternControl → ℕ → Pattern → Pattern
moves_of c n p = in_turn (λ _. next_of c) n p

-- A record is malformed where "the pattern's place is not below the length or its repeat not below the scale".
unfoldable pub in_range : PatternControl → Pattern → Bool
in_range c p = ltb p.place c.length && ltb p.repeat c.scale

-- Setting and moving keep the state in range; proved in proofs/Moves.antt.
abbrev pub StartsInRange : Type 0
StartsInRange = (word : ℕ) → pctrl_legal word ≡ true → in_range (pattern_control_of word) (start_of (pattern_control_of word)) ≡ true

abbrev pub StaysInRange : Type 0
StaysInRange =
    (word : ℕ) (p : Pattern) → in_range (pattern_control_of word) p ≡ true
    → in_range (pattern_control_of word) (next_of (pattern_control_of word) p) ≡ true

-- Many moves are one sum: of n more pixels each `scale` move the place by one, round the length; proved in
-- proofs/Rounds.antt.
abbrev pub MovesInOneGo : Type 0
MovesInOneGo =
    (c : PatternControl) (n : ℕ) (p : Pattern) → in_range c p ≡ true
    → moves_of c n p
    ≡ record { place = (p.place + (p.repeat + n) / c.scale) % c.length; repeat = (p.repeat + n) % c.scale }

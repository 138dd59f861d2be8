-- The sixteen raster codes at once (02, R-3), and code 6 twice (02, R-8), over the rule that the contracts cite.
use Rattle.std.specs.Prelude.{◌≡◌, ℕ, ◌/◌, ◌<◌}
use Rattle.raster.specs.Raster.{bit, byte_of, new_byte}

-- "the code with each of its four bits doubled"
abbrev pub doubled : ℕ → ℕ
doubled code = byte_of (λ k. bit (k / 2) code)

-- "with s 0x0F, d 0x33 and mask 0xFF the new byte is the code with each of its four bits doubled"
abbrev pub CodesDoubled : Type 0
CodesDoubled = (code : ℕ) → new_byte code 0x0F 0x33 0xFF ≡ doubled code

-- Code 6, exclusive or: the same source drawn twice leaves the old byte, whatever the mask; proved in proofs/Undone.antt.
abbrev pub SixUndoesItself : Type 0
SixUndoesItself = (source old mask : ℕ) → old < 256 → new_byte 6 source (new_byte 6 source old mask) mask ≡ old

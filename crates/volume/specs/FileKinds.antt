-- The kinds of samples that volume files have, by their first byte.
use Rattle.std.specs.Prelude.{◌≡◌, ◌≢◌, ℕ, Result, MatchResult}
use Rattle.refusal.specs.declared.refusals.Refusal.{Refusal}
use Rattle.refusal.specs.declared.refusals.Refusal.TheVariants as refusal
use Rattle.volume.specs.declared.file_kinds.FileKind.{FileKind}
use Rattle.volume.specs.declared.file_kinds.FileKind.TheVariants.{Density, Label}

-- the byte of a kind
abbrev pub kind_byte : FileKind → ℕ
kind_byte Density = 1
kind_byte Label = 2

-- the kind of a byte, or the byte is none's
abbrev pub Decodes : ℕ → Result FileKind Refusal → Type 0
Decodes code r = MatchResult r (λ s. kind_byte s ≡ code) (λ e. (e ≡ refusal.FileKind) × (code ≢ 1) × (code ≢ 2))

-- How a state is spelled, in each version. Each text stands before what follows it.
use Rattle.std.specs.Prelude.{ℕ, Bool, not, ◌&&◌, ◌||◌, cond, List, [], ◌∷◌, ◌++◌, length, map, ◌==◌}
use Rattle.std.specs.Int.{Width, w8, w16, w32, w64}
use Rattle.mls_model.specs.declared.outcomes.Counts.{Counts}
use Rattle.mls_model.specs.Studies.{Sizes}
use Rattle.mls_ckpt.specs.Reading.{text, texts}
use Rattle.mls_ckpt.specs.States.{PendingShare, PendingKey, State}

-- the first four bytes, MCKP
abbrev pub magic : ℕ
magic = 0x4d434b50

-- the versions that are read for a study: 3; for one field 2; for one field of unsigned samples 1
abbrev pub is_read : Sizes → ℕ → Bool
is_read s version = (version == 3) || ((version == 2) && (s.fields == 1)) || ((version == 1) && (s.fields == 1) && not s.signed)

-- what stands in the head behind the version: version 1 has no byte of samples, and versions 2 and 1 no fields
abbrev pub samples_byte : ℕ → Sizes → List (Width × ℕ)
samples_byte version s = cond (version == 1) [] ((w8, cond s.signed 1 0) ∷ [])

abbrev pub fields_number : ℕ → Sizes → List (Width × ℕ)
fields_number version s = cond (version == 3) ((w32, s.fields) ∷ []) []

abbrev pub threshold_numbers : Sizes → List (Width × ℕ)
threshold_numbers s = (w8, length s.thresholds) ∷ map (λ t. (w16, t)) s.thresholds

unfoldable pub head_numbers : ℕ → Sizes → ℕ → List (Width × ℕ)
head_numbers version s rank =
    samples_byte version s
    ++ ((w32, s.cells) ∷ (w32, s.steps) ∷ (fields_number version s
    ++ ((w32, s.groups) ∷ (w32, s.parameters) ∷ (w32, s.ranks) ∷ (w32, s.clients) ∷ (w32, rank) ∷ threshold_numbers s)))

-- numbers of several widths
abbrev pub sized_text : Width × ℕ → List ℕ → List ℕ
sized_text number rest = text number.0 number.1 rest

unfoldable pub head_text : ℕ → Sizes → ℕ → List ℕ → List ℕ
head_text version s rank rest = text w32 magic (text w16 version (texts sized_text (head_numbers version s rank) rest))

abbrev pub counts_list : Counts → List ℕ
counts_list c = c.accepted ∷ c.kept ∷ c.replay ∷ c.stale ∷ c.repeated ∷ c.f1 ∷ c.f2 ∷ c.f3 ∷ c.f4 ∷ c.f5 ∷ c.f6 ∷ []

unfoldable pub counts_text : Counts → List ℕ → List ℕ
counts_text c rest = texts (text w64) (counts_list c) rest

unfoldable pub marks_text : List (List ℕ) → List ℕ → List ℕ
marks_text marks rest = texts (texts (text w8)) marks rest

unfoldable pub share_text : PendingShare → List ℕ → List ℕ
share_text share rest = text w16 share.client (texts (text w16) share.samples rest)

unfoldable pub key_text : PendingKey → List ℕ → List ℕ
key_text key rest = text w32 key.group (text w32 key.plane (text w32 key.life (text w16 (length key.shares) (texts share_text key.shares rest))))

unfoldable pub pending_text : List PendingKey → List ℕ → List ℕ
pending_text keys rest = text w32 (length keys) (texts key_text keys rest)

-- the spelling of a state
unfoldable pub spelled_state : ℕ → Sizes → ℕ → State → List ℕ
spelled_state version s rank state =
    head_text version s rank (counts_text state.counts (marks_text state.marks (state.part ++ pending_text state.pending [])))

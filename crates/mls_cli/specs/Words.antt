-- Which words are a command of melissa, with the names and numbers in their places.
use Rattle.std.specs.Prelude.{◌≡◌, ℕ, ◌^◌, Bool, false, not, cond, List, [], ◌∷◌, bytes_eq, codes, Option, Some, None, Result, Ok, Err, ◌==◌}
use Rattle.std.specs.List.{list_all}
use Rattle.std.specs.Option.{option_and_then, option_map}
use Rattle.mls_text.specs.Decimals.{number_below}
use Rattle.mls_cli.specs.declared.words.FoldNames.{FoldNames}
use Rattle.mls_cli.specs.declared.words.Words.{Words}
use Rattle.mls_cli.specs.declared.words.Words.TheVariants.{Fold, Design, Trial, Watch, Bins, Export, Resume}
use Rattle.mls_cli.specs.declared.words.WordsFault.{WordsFault}
use Rattle.mls_cli.specs.declared.words.WordsFault.TheVariants.{Usage, Memory}

-- a word that is not empty and does not begin with -
abbrev pub is_word : List ℕ → Bool
is_word [] = false
is_word (b ∷ bs) = not (b == 45)

-- STUDY TAPE [SCHEDULE]
abbrev pub fold_names : List (List ℕ) → Option FoldNames
fold_names (study ∷ tape ∷ []) = Some (record { study = study; tape = tape; schedule = None })
fold_names (study ∷ tape ∷ schedule ∷ []) = Some (record { study = study; tape = tape; schedule = Some schedule })
fold_names _ = None

abbrev pub fold_in : List (List ℕ) → Option Words
fold_in words = option_map (λ names. Fold names.study names.tape names.schedule) (fold_names words)

-- STUDY
abbrev pub design_in : List (List ℕ) → Option Words
design_in (study ∷ []) = Some (Design study)
design_in _ = None

-- STUDY NUMBER [TAPE SCHEDULE], both of them or neither; the number is a canonical decimal below 2 ^ 64
abbrev pub trial_in : List (List ℕ) → Option Words
trial_in (study ∷ number ∷ []) = option_and_then (λ n. Some (Trial study n None)) (number_below (2 ^ 64) number)
trial_in (study ∷ number ∷ tape ∷ schedule ∷ []) = option_and_then (λ n. Some (Trial study n (Some (record { tape = tape; schedule = schedule })))) (number_below (2 ^ 64) number)
trial_in _ = None

-- STUDY EVENTS
abbrev pub watch_in : List (List ℕ) → Option Words
watch_in (study ∷ events ∷ []) = Some (Watch study events)
watch_in _ = None

-- STUDY TAPE [SCHEDULE]
abbrev pub bins_in : List (List ℕ) → Option Words
bins_in words = option_map (λ names. Bins names.study names.tape names.schedule) (fold_names words)

-- STUDY PREFIX
abbrev pub export_in : List (List ℕ) → Option Words
export_in (study ∷ prefix ∷ []) = Some (Export study prefix)
export_in _ = None

-- STUDY OLD PREFIX TAPE [SCHEDULE]; OLD is a canonical decimal below 2 ^ 32
abbrev pub resume_in : List (List ℕ) → Option Words
resume_in (study ∷ old ∷ prefix ∷ tape ∷ []) = option_and_then (λ n. Some (Resume study n prefix tape None)) (number_below (2 ^ 32) old)
resume_in (study ∷ old ∷ prefix ∷ tape ∷ schedule ∷ []) = option_and_then (λ n. Some (Resume study n prefix tape (Some schedule))) (number_below (2 ^ 32) old)
resume_in _ = None

-- the command of a name, with the words behind it
unfoldable pub command_in : List ℕ → List (List ℕ) → Option Words
command_in command names =
    cond (bytes_eq command (codes "fold")) (fold_in names)
    (cond (bytes_eq command (codes "design")) (design_in names)
    (cond (bytes_eq command (codes "trial")) (trial_in names)
    (cond (bytes_eq command (codes "watch")) (watch_in names)
    (cond (bytes_eq command (codes "bins")) (bins_in names)
    (cond (bytes_eq command (codes "export")) (export_in names)
    (cond (bytes_eq command (codes "resume")) (resume_in names)
    None))))))

-- The command that words are. No word behind its name is empty or begins with -.
unfoldable pub words_of : List (List ℕ) → Option Words
words_of [] = None
words_of (command ∷ names) = cond (list_all is_word names) (command_in command names) None

abbrev pub IsThere : {A : Type 0} → Option A → Type 0
IsThere None = ⊥
IsThere (Some x) = Unit {0}

-- What was read, seen by view, is what the words say; usage is answered where they say nothing, and want of memory only where they do.
abbrev pub ReadsAs : {A B : Type 0} → (A → B) → Result A WordsFault → Option B → Type 0
ReadsAs view (Ok x) right = right ≡ Some (view x)
ReadsAs view (Err Usage) right = right ≡ None
ReadsAs view (Err Memory) right = IsThere right

-- of a command, and of the names of a fold
abbrev pub Reads : Result Words WordsFault → Option Words → Type 0
Reads result right = ReadsAs (λ (words : Words). words) result right

abbrev pub ReadsNames : Result FoldNames WordsFault → Option FoldNames → Type 0
ReadsNames result right = ReadsAs (λ (names : FoldNames). names) result right

-- A number is read as the word spells it; usage is answered exactly where it spells none.
abbrev pub ReadsNumber : Result ℕ WordsFault → Option ℕ → Type 0
ReadsNumber (Ok n) right = right ≡ Some n
ReadsNumber (Err fault) right = (fault ≡ Usage) × (right ≡ None)

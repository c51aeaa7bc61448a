-- Which words are a command of melissad, with the names and numbers in their places.
use Rattle.std.specs.Prelude.{ℕ, ◌^◌, ◌≤◌, ⊤, cond, List, [], ◌∷◌, bytes_eq, codes, nat_lt, Option, Some, None, Result}
use Rattle.std.specs.List.{list_all}
use Rattle.std.specs.Option.{option_and_then}
use Rattle.mls_text.specs.Decimals.{number_below}
use Rattle.mls_load.specs.declared.words.WordsFault.{WordsFault}
use Rattle.mls_load.specs.Words.{is_word, ReadsAs}
use Rattle.mls_live.specs.declared.words.Words.{Words}
use Rattle.mls_live.specs.declared.words.Words.TheVariants.{Run, Serve, Group, Poll}

-- a number from least to most
abbrev pub within : (least most : ℕ) → ℕ → Option ℕ
within least most n = cond (nat_lt n least) None (cond (nat_lt most n) None (Some n))

-- the number from least to most whose canonical decimal the word is
abbrev pub number_within : (least most : ℕ) → List ℕ → Option ℕ
number_within least most word = option_and_then (within least most) (number_below (2 ^ 32) word)

-- STUDY TAPE WORKERS SCHEDULE
abbrev pub run_in : List (List ℕ) → Option Words
run_in (study ∷ tape ∷ workers ∷ schedule ∷ []) = option_and_then (λ n. Some (Run study tape n schedule)) (number_within 1 64 workers)
run_in _ = None

-- STUDY ADDR LANES
abbrev pub serve_in : List (List ℕ) → Option Words
serve_in (study ∷ addr ∷ lanes ∷ []) = option_and_then (λ n. Some (Serve study addr n)) (number_within 1 65535 lanes)
serve_in _ = None

-- STUDY GROUP LIFE ADDR
abbrev pub group_in : List (List ℕ) → Option Words
group_in (study ∷ group ∷ life ∷ addr ∷ []) = option_and_then (λ g. option_and_then (λ l. Some (Group study g l addr)) (number_within 1 4294967295 life)) (number_within 0 65534 group)
group_in _ = None

-- STUDY ADDR LANES
abbrev pub poll_in : List (List ℕ) → Option Words
poll_in (study ∷ addr ∷ lanes ∷ []) = option_and_then (λ n. Some (Poll study addr n)) (number_within 1 1024 lanes)
poll_in _ = None

-- the command of a name, with the words behind it
unfoldable pub command_in : List ℕ → List (List ℕ) → Option Words
command_in command names =
    cond (bytes_eq command (codes "run")) (run_in names)
    (cond (bytes_eq command (codes "serve")) (serve_in names)
    (cond (bytes_eq command (codes "group")) (group_in names)
    (cond (bytes_eq command (codes "poll")) (poll_in names)
    None)))

-- The command that words are. No word behind its name is empty or begins with -.
unfoldable pub words_of : List (List ℕ) → Option Words
words_of [] = None
words_of (command ∷ names) = cond (list_all is_word names) (command_in command names) None

-- What was read is the command that the words are.
abbrev pub Reads : Result Words WordsFault → Option Words → Type 0
Reads result right = ReadsAs (λ (words : Words). words) result right

-- a server has at most so many connections
abbrev pub FewServed : Words → Type 0
FewServed (Serve study addr lanes) = lanes ≤ 65535
FewServed command = ⊤

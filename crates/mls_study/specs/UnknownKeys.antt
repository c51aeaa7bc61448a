-- Which keys are none of a study file's, and which of them is told.
use Rattle.std.specs.Prelude.{ℕ, Bool, not, List, [], ◌∷◌, codes, cond, bytes_eq, Option, Some, None}
use Rattle.std.specs.List.{list_any, filter, find}
use Rattle.std.specs.Option.{option_or, option_and_then}
use Rattle.std.specs.Ordering.{nat_cmp, is_lt}
use Rattle.std.specs.Cmp.Lexicographic.{slice_cmp}
use Rattle.toml.specs.Data.{Items, no_items, item, Members, no_members, member, as_table}
use Rattle.mls_study.specs.declared.unknown_keys.TableKind.{TableKind}
use Rattle.mls_study.specs.declared.unknown_keys.TableKind.TheVariants.{Study, Parameter}

-- the keys of a study file, and those of a parameter's table
abbrev pub known_keys : TableKind → List (List ℕ)
known_keys Study = codes "cells" ∷ codes "steps" ∷ codes "groups" ∷ codes "ranks" ∷ codes "clients" ∷ codes "seed" ∷ codes "samples" ∷ codes "fields" ∷ codes "statistics" ∷ codes "thresholds" ∷ codes "slots" ∷ codes "silence" ∷ codes "lives" ∷ codes "parameters" ∷ []
known_keys Parameter = codes "name" ∷ codes "low" ∷ codes "high" ∷ []

abbrev pub is_known_key : TableKind → List ℕ → Bool
is_known_key kind key = list_any (bytes_eq key) (known_keys kind)

-- the keys of the members
abbrev pub member_keys : Members → List (List ℕ)
member_keys no_members = []
member_keys (member k d ms) = k ∷ member_keys ms

-- the keys that such a table may not have
abbrev pub unknown_of : TableKind → List (List ℕ) → List (List ℕ)
unknown_of kind keys = filter (λ key. not (is_known_key kind key)) keys

-- whether a text comes before another in the order of bytes
abbrev pub comes_before : List ℕ → List ℕ → Bool
comes_before a b = is_lt (slice_cmp nat_cmp a b)

-- whether none of the texts comes before this one
abbrev pub none_before : List (List ℕ) → List ℕ → Bool
none_before texts text = not (list_any (λ other. comes_before other text) texts)

-- the one of these texts that none of them comes before, wherever it stands
unfoldable pub least_of : List (List ℕ) → Option (List ℕ)
least_of texts = find (none_before texts) texts

-- the least unknown key of a table, whatever the order of its members
abbrev pub least_unknown : TableKind → Members → Option (List ℕ)
least_unknown kind ms = least_of (unknown_of kind (member_keys ms))

-- the least unknown key of the first table that has one
unfoldable pub first_unknown : Items → Option (List ℕ)
first_unknown no_items = None
first_unknown (item d ds) = option_or (option_and_then (least_unknown Parameter) (as_table d)) (first_unknown ds)

-- a text, or the least one before it where that is no later
abbrev pub lesser_of : Option (List ℕ) → List ℕ → List ℕ
lesser_of None text = text
lesser_of (Some least) text = cond (comes_before text least) text least

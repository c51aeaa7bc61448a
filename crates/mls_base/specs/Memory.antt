-- What the objects in memory hold.
use Rattle.std.specs.Prelude.{ℕ, List, Option}
use Rattle.std.specs.Option.{option_map}
use Rattle.std.specs.BTreeMap.{get_by_text}
use Rattle.mls_base.specs.Told.{Names}
use Rattle.mls_base.specs.declared.memory.MemFiles.{MemFiles}
use Rattle.mls_base.specs.declared.memory.MemKeeper.{MemKeeper}

-- the bytes that each name is held with
abbrev pub names_of : MemFiles → Names
names_of files = λ name. option_map (λ bytes. bytes.items) (get_by_text files.held name)

-- nothing, or the bytes that are kept
abbrev pub kept_of : MemKeeper → Option (List ℕ)
kept_of keeper = option_map (λ bytes. bytes.items) keeper.held

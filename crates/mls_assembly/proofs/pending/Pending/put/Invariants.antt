use Rattle.std.proofs.Common.{◌≡◌, ◌++◌, ◌≤◌, [], length, map}
use Rattle.mls_ckpt.specs.Reading.{texts}
use Rattle.mls_ckpt.specs.Spellings.{key_text, pending_text}
use Rattle.mls_assembly.specs.Saved.{key_saved, keys_saved}
use Rattle.mls_assembly.specs.EntryLists.{AllEntries}
use Rattle.mls_assembly.proofs.pending.Pending.put.Given as goal

abbrev pub invariant-loop-key : goal.invariant-loop-key
invariant-loop-key l =
    (l.out ++ texts key_text (map key_saved l.key-iterator) [] ≡ l.fn.out ++ pending_text (keys_saved l.self) [])
    × AllEntries (λ key pieces. length pieces.shares ≤ 64) l.key-iterator

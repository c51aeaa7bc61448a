use Rattle.std.proofs.Common.{◌≡◌, ap, sym, ◌∙◌, subst, length, ◌<◌, ◌≤◌, arith}
use Rattle.std.specs.Map.Iter.{deref_pair}
use Rattle.std.proofs.lemmas.Map.Iter.{rest_more}
use Rattle.mls_assembly.specs.Held.{Held}
use Rattle.mls_assembly.proofs.PuttingKeys.{keys_begin, keys_more}
use Rattle.mls_assembly.specs.EntryLists.{AllEntries}
use Rattle.mls_assembly.proofs.EntryKeys.{slots_few, few_saved}
use Rattle.mls_assembly.proofs.pending.Pending.put.Goals as goal

pub overflow_cast-keys : goal.overflow_cast-keys
overflow_cast-keys c =
    let held : Held = record { sizes = c.self.inside.shape; rank = c.self.inside.rank; entries = c.self.inside.keys.entries } in
    let few : length held.entries < 4294967296 = few_saved held c.valid.ensures c.self.invariant c.len-keys.ensures.ordered in
    omega (arith, c.len-keys.ensures.len)

pub loop-key-init : goal.loop-key-init
loop-key-init c =
    let held : Held = record { sizes = c.self.inside.shape; rank = c.self.inside.rank; entries = c.self.inside.keys.entries } in
    let left : c.into_iter-key-iterator.result ≡ c.self.inside.keys.entries = c.into_iter-key-iterator.ensures.into_iter_gives ∙ c.iter-key-items.ensures.rest in
    let slots = slots_few held c.valid.ensures c.self.invariant c.len-keys.ensures.ordered in (
      keys_begin c.args.self.now c.args.out.now c.put_u32.new.self c.len-keys.result c.into_iter-key-iterator.result
          (left ∙ ap (λ (h : Held). h.entries) c.self.view_is) (c.len-keys.ensures.len ∙ ap (λ (h : Held). length h.entries) c.self.view_is) c.in_ok-put_u32.ensures.ok,
      subst (AllEntries (λ key pieces. length pieces.shares ≤ 64)) (sym left) slots,
    )

pub put_key-requires : goal.put_key-requires
put_key-requires c =
    let next = rest_more deref_pair c.loop-key.key-iterator c.next.new.self c.next.result _ c.in-Some.is c.next.ensures.steps in
    let h = subst (AllEntries (λ key pieces. length pieces.shares ≤ 64)) next c.loop-key.invariant.1 in
    h.0

pub loop-key-preserved : goal.loop-key-preserved
loop-key-preserved c =
    let next = rest_more deref_pair c.loop-key.key-iterator c.next.new.self c.next.result _ c.in-Some.is c.next.ensures.steps in
    let h = subst (AllEntries (λ key pieces. length pieces.shares ≤ 64)) next c.loop-key.invariant.1 in
    (keys_more c.loop-key.out c.put_key.new.out _ _ c.loop-key.key-iterator c.next.new.self next c.in_ok-put_key.ensures c.loop-key.invariant.0, h.1)

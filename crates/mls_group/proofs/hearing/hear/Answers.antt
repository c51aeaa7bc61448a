use Rattle.std.proofs.Common.{◌<◌, ◌++◌, length, ap, sym, subst, refl, ◌∙◌, arith, length-append}
use Rattle.mls_wire.specs.Sessions.{reply_in}
use Rattle.mls_group.proofs.Reading.{HasRead, has_none, has_more, says_nothing, none_by}
use Rattle.mls_group.proofs.Short.{short}
use Rattle.mls_group.proofs.hearing.hear.Goals as goal

pub loop-reply-init : goal.loop-reply-init
loop-reply-init g c =
    let told = g.L.Link.told c.args.link.now in
    record {
      read = subst (λ xs. HasRead xs told told) (sym c.new-bytes.ensures.items) (has_none told);
      says = says_nothing ∙ ap reply_in (sym c.new-bytes.ensures.items);
      sound = λ s. s;
      sure = omega arith;
      faultless = refl;
    }

pub loop-reply-smaller : goal.loop-reply-smaller
loop-reply-smaller g c =
    let bytes = c.loop-reply.bytes.items in
    let few : length bytes < 67108868 = short bytes (sym c.loop-reply.invariant.says ∙ none_by c.loop-reply.reply c.is_none.result c.is_none.ensures c.loop-reply-test.true) in
    omega (arith, few, ap length c.add.ensures, ap length c.in_ok-reserve.ensures.items, length-append c.reserve.new.self.items c.split_at.result.0.now, c.split_at.ensures.front_len, c.if-n-eq0.false)

pub loop-reply-preserved : goal.loop-reply-preserved
loop-reply-preserved g c =
    let n = c.in_ok-n.n in
    let bytes = c.loop-reply.bytes.items in
    let front = c.split_at.result.0.now in
    let filled = c.read.new.into in
    let e = c.add.ensures ∙ ap (λ xs. xs ++ front) c.in_ok-reserve.ensures.items ∙ ap (λ xs. bytes ++ xs) c.split_at.ensures.front in
    let many = sym (ap length c.split_at.ensures.front) ∙ c.split_at.ensures.front_len in
    record {
      read = subst (λ xs. HasRead xs (g.L.Link.told c.args.link.now) (g.L.Link.told c.read.new.self)) (sym e) (has_more bytes _ _ _ n _ _ c.loop-reply.invariant.read many c.in_ok-n.ensures.given c.in_ok-n.ensures.moved);
      says = c.reply_in-reply.ensures ∙ ap reply_in c.as_slice.ensures.value;
      sound = λ s. c.in_ok-n.ensures.sound (c.loop-reply.invariant.sound s);
      sure = omega (arith, c.loop-reply.invariant.sure, c.in_ok-n.ensures.sure);
      faultless = c.in_ok-n.ensures.faultless ∙ c.loop-reply.invariant.faultless;
    }

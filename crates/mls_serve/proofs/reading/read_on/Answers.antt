use Rattle.std.proofs.Common.{ℕ, take, length, ap, sym, subst, refl, ◌∙◌, arith}
use Rattle.mls_model.specs.declared.lanes.LaneEnd.{LaneEnd}
use Rattle.mls_wire.specs.Links.{after_read}
use Rattle.mls_serve.specs.Readings.{IsGood}
use Rattle.mls_serve.proofs.Ends.{good_more, read-nothing, nothing_left, input_ends}
use Rattle.mls_serve.proofs.reading.read_on.Goals as goal

pub returns-then-room-eq0-clause-ended : goal.returns-then-room-eq0-clause-ended
returns-then-room-eq0-clause-ended g c = record {
  here = omega (arith, c.offset.ensures);
  full = omega (arith, c.offset.ensures, c.rest.ensures, c.if-room-eq0.true, c.requires.head, c.requires.few);
  good = good_more _ _ c.requires.more;
  link = refl;
  faultless = refl;
}

pub returns-then-n-eq0-clause-ended : goal.returns-then-n-eq0-clause-ended
returns-then-n-eq0-clause-ended g c =
    let told = g.L.Link.told c.args.link.now in
    let buffer = c.read_most.new.buffer in
    input_ends _ _ _ _ _ _ _ _ (subst (λ (end : LaneEnd). IsGood end) (sym c.input_end.ensures) (good_more _ _ c.requires.more)) (record {
      is_end = c.input_end.ensures;
      few = omega (arith, c.offset.ensures, c.rest.ensures, c.if-room-eq0.false, c.requires.head, c.requires.few);
      nothing = nothing_left told (c.in-Ok.ensures.ended c.if-n-eq0.true);
      link = c.in-Ok.ensures.read.told ∙ ap (λ (k : ℕ). after_read (length (take k buffer)) told) c.if-n-eq0.true ∙ read-nothing told;
      faultless = c.in-Ok.ensures.faultless;
    })

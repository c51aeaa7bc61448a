-- What polls of one connection after another leave, and saves of one rank after another.
use Rattle.std.proofs.Common.{◌≡◌, ◌≢◌, ℕ, ◌+◌, ◌<◌, ◌≤◌, Bool, true, false, List, length, get_or, Some, refl, sym, ap, subst, ◌∙◌, inl, inr, ◌⊎◌, arith}
use Rattle.std.specs.Prelude.{◌&&◌, ◌↔◌}
use Rattle.std.proofs.lemmas.Bool.{true≢false, cases_Bool}
use Rattle.futures.specs.declared.task.context.Context.{Context}
use Rattle.futures.specs.Task.{Lasting, IsArmed, Keeps}
use Rattle.mls_base.specs.declared.outside.Keeper as keeper
use Rattle.mls_model.specs.Numbers.{element}
use Rattle.mls_field.specs.declared.fold.RowFold.{Ghosts}
use Rattle.mls_held.specs.declared.run.Run as run
use Rattle.mls_poll.specs.declared.outside.PollLink as link
use Rattle.mls_hub.specs.declared.connection.Connection.{Connection}
use Rattle.mls_hub.specs.declared.faults.Fault.{Fault}
use Rattle.mls_hub.specs.Lanes.{save_event}
use Rattle.mls_hub.specs.Books.{WireBook, GoOn, TookAt, RefusedAt}
use Rattle.mls_hub.specs.Connections.{has_end}
use Rattle.mls_hub.specs.Halls.{HallKept, Leaves, WasPending, EndsAt}
use Rattle.mls_hub.specs.Turns.{IsSaved, AreSaved, AllEnded, SomeWaits}
use Rattle.mls_hub.proofs.Elements.{same_or, same_element, within, none_moved}
use Rattle.mls_hub.proofs.Seats.{all_same, go_further, took_goes, refused_goes}
use Rattle.mls_hub.proofs.Hallways.{says_saved, says_refused, says_weaker}
use Rattle.mls_hub.proofs.Turnings.{pending_from, pending_on, saved_more}

-- One of the first connections was pending in these polls, and has no end.
pub record HasOpen {L : Type 0} (U : link.Ghosts L) (polled : ℕ) (old new : List (Connection L)) : Type 0 where
  pub i : ℕ
  pub here : i < polled
  pub pending : WasPending U i old new
  pub unended : EndsAt i new → ⊥

-- What polls of the first connections left: all tells whether these have their ends.
pub record PolledSo {L F K R : Type 0} (U : link.Ghosts L) (T : Ghosts F) (W : keeper.Ghosts K) (N : run.Ghosts R) (polled : ℕ) (all : Bool) (old_books new_books : List (WireBook F K)) (old new : List (Connection L)) : Type 0 where
  pub kept : HallKept U T W N true new_books new
  pub go_on : GoOn W old_books new_books
  pub count : length new ≡ length old
  pub rest : (j : ℕ) → polled ≤ j → element new j ≡ element old j
  pub ended : all ≡ true → (j : ℕ) → j < polled → EndsAt j new
  pub waits : all ≡ false → HasOpen U polled old new

-- What saves of the first ranks left.
pub record SavedSo {L F K R : Type 0} (U : link.Ghosts L) (T : Ghosts F) (W : keeper.Ghosts K) (N : run.Ghosts R) (rank : ℕ) (old new : List (WireBook F K)) (connections : List (Connection L)) : Type 0 where
  pub kept : HallKept U T W N true new connections
  pub go_on : GoOn W old new
  pub saved : (r : ℕ) (b : WireBook F K) → r < rank → element new r ≡ Some b → IsSaved T W b

-- a connection with an end has it while others move
pub ends_on : {L : Type 0} (j : ℕ) (old new : List (Connection L)) → element new j ≡ element old j → EndsAt j old → EndsAt j new
ends_on j old new same ends c at = ends c (sym same ∙ at)

-- whether the connection at a place has its end, told by its stage
pub ends_told : {L : Type 0} (i : ℕ) (connections : List (Connection L)) (c : Connection L) (told : Bool) → element connections i ≡ Some c → told ≡ has_end c.stage → (told ≡ true) ↔ EndsAt i connections
ends_told {L} i connections c told at is = (
  (λ yet x there. ap (λ (y : Connection L). has_end y.stage) (sym (same_element connections i c x at there)) ∙ sym is ∙ yet),
  (λ ends. is ∙ ends c at),
)

below_next : (j i : ℕ) → j < i + 1 → j ≢ i → j < i
below_next j i lt ne = omega (arith, lt, ne)

less_differs : (j i : ℕ) → j < i → j ≢ i
less_differs j i lt e = omega (arith, lt, e)

more_differs : (j i : ℕ) → i + 1 ≤ j → j ≢ i
more_differs j i le e = omega (arith, le, e)

not_both : (b : Bool) → b ≡ true → b ≡ false → ⊥
not_both b t f = true≢false (sym t ∙ f)

and_true : (a b : Bool) → (a && b) ≡ true → (a ≡ true) × (b ≡ true)
and_true true true e = (refl, refl)
and_true true false e = absurd (true≢false (sym e))
and_true false b e = absurd (true≢false (sym e))

and_false : (a b : Bool) → (a && b) ≡ false → (a ≡ false) ⊎ (b ≡ false)
and_false true b e = inr e
and_false false b e = inl refl

-- the context is armed where a poll was pending, this one or an earlier
pub armed_more : (all ended : Bool) (old new : Context) → Keeps old new → (all ≡ false → IsArmed old) → (ended ≡ false → IsArmed new) → (all && ended) ≡ false → IsArmed new
armed_more all ended old new keeps before now e = elim (and_false all ended e) [
  | inl was ↦ keeps Lasting.armed (before was)
  | inr is ↦ now is
]

module _ {L F K R : Type 0} (U : link.Ghosts L) (T : Ghosts F) (W : keeper.Ghosts K) (N : run.Ghosts R) where
  -- a connection that has its end isn't polled
  pub leaves_same : (i : ℕ) (books : List (WireBook F K)) (connections : List (Connection L)) → HallKept U T W N true books connections → Leaves U T W N true i books books connections connections
  leaves_same i books connections kept = record { kept = kept; go_on = all_same W books; moved = none_moved i connections }

  pub polled_none : (books : List (WireBook F K)) (connections : List (Connection L)) → HallKept U T W N true books connections → PolledSo U T W N 0 true books books connections connections
  polled_none books connections kept = record {
    kept = kept;
    go_on = all_same W books;
    count = refl;
    rest = λ j le. refl;
    ended = λ e j lt. absurd (omega (arith, lt));
    waits = λ e. absurd (true≢false e);
  }

  -- one more connection was polled
  pub polled_more : (i : ℕ) (all ended : Bool) (b1 b2 b3 : List (WireBook F K)) (old mid new : List (Connection L)) → PolledSo U T W N i all b1 b2 old mid → Leaves U T W N true i b2 b3 mid new
      → ((ended ≡ true) ↔ EndsAt i new) → (ended ≡ false → WasPending U i mid new) → PolledSo U T W N (i + 1) (all && ended) b1 b3 old new
  polled_more i all ended b1 b2 b3 old mid new p l told pending = record {
    kept = l.kept;
    go_on = go_further W b1 b2 b3 p.go_on l.go_on;
    count = l.moved.count ∙ p.count;
    rest = λ j le. l.moved.others j (more_differs j i le) ∙ p.rest j (omega (arith, le));
    ended = λ e j lt. elim (same_or j i) [
      | inl here ↦ subst (λ (k : ℕ). EndsAt k new) (sym here) (told.0 (and_true all ended e).1)
      | inr ne ↦ ends_on j mid new (l.moved.others j ne) (p.ended (and_true all ended e).0 j (below_next j i lt ne))
    ];
    waits = λ e. elim (and_false all ended e) [
      | inl was ↦ (
          let one = p.waits was in
          let lt = one.here in
          let same = l.moved.others one.i (less_differs one.i i lt) in
          record { i = one.i; here = omega (arith, lt); pending = pending_on U one.i old mid new same one.pending; unended = λ ends. one.unended (ends_on one.i new mid (sym same) ends) })
      | inr is ↦ record { i = i; here = omega arith; pending = pending_from U i old mid new (p.rest i (omega arith)) (pending is); unended = λ ends. not_both ended (told.1 ends) is }
    ];
  }

  pub polled_all : (i : ℕ) (all : Bool) (b1 b2 : List (WireBook F K)) (old new : List (Connection L)) → PolledSo U T W N i all b1 b2 old new → length old ≤ i → (all ≡ true) ↔ AllEnded new
  polled_all i all b1 b2 old new p whole = (
    (λ e j c at. let lt = within new j c at in let count = p.count in p.ended e j (omega (arith, lt, count, whole)) c at),
    (λ ends. elim (cases_Bool all) [
      | inl t ↦ t
      | inr f ↦ (let one = p.waits f in absurd (one.unended (ends one.i)))
    ]),
  )

  pub polled_waits : (i : ℕ) (all : Bool) (b1 b2 : List (WireBook F K)) (old new : List (Connection L)) → PolledSo U T W N i all b1 b2 old new → i ≤ length old → all ≡ false → SomeWaits U old new
  polled_waits i all b1 b2 old new p part e =
      let one = p.waits e in
      let lt = one.here in
      let count = p.count in
      record { i = one.i; here = omega (arith, lt, count, part); pending = one.pending }

  pub saved_none : (books : List (WireBook F K)) (connections : List (Connection L)) → HallKept U T W N true books connections → SavedSo U T W N 0 books books connections
  saved_none books connections kept = record { kept = kept; go_on = all_same W books; saved = λ r b lt at. absurd (omega (arith, lt)) }

  -- one more rank saved its state
  pub saved_next : (rank : ℕ) (old mid new : List (WireBook F K)) (connections : List (Connection L)) → rank < length old → SavedSo U T W N rank old mid connections → TookAt T W rank rank save_event mid new → SavedSo U T W N (rank + 1) old new connections
  saved_next rank old mid new connections here s took =
      let count = s.go_on.count in
      let ranks = s.kept.says.count in
      record {
        kept = record { frames = s.kept.frames; says = says_saved U T W N true mid new connections s.kept.frames rank (omega (arith, here, count, ranks)) took s.kept.says };
        go_on = go_further W old mid new s.go_on (took_goes T W rank rank save_event mid new took);
        saved = saved_more T W rank mid new took s.saved;
      }

  -- a rank couldn't save its state
  pub unsaved : (rank : ℕ) (fault : Fault) (old mid new : List (WireBook F K)) (connections : List (Connection L)) → SavedSo U T W N rank old mid connections → RefusedAt T W rank fault mid new → HallKept U T W N false new connections
  unsaved rank fault old mid new connections s refused = record {
    frames = s.kept.frames;
    says = says_refused U T W N false mid new connections s.kept.frames rank fault refused (says_weaker U T W N mid connections s.kept.frames s.kept.says);
  }

  pub saved_all : (rank : ℕ) (old new : List (WireBook F K)) (connections : List (Connection L)) → SavedSo U T W N rank old new connections → length old ≤ rank → AreSaved T W new
  saved_all rank old new connections s whole r b at =
      let lt = within new r b at in
      let count = s.go_on.count in
      s.saved r b (omega (arith, lt, count, whole)) at

  -- a rank's number fits
  pub rank_fits : (rank : ℕ) (old new : List (WireBook F K)) (connections : List (Connection L)) → rank < length old → SavedSo U T W N rank old new connections → (rank < N.sizes.ranks) × (rank < length new)
  rank_fits rank old new connections here s =
      let count = s.go_on.count in
      let ranks = s.kept.says.count in
      (omega (arith, here, count, ranks), omega (arith, here, count))

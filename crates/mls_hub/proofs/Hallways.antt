-- What becomes of a hub's books and connections together.
use Rattle.std.proofs.Common.{◌≡◌, ◌≢◌, ℕ, zero, suc, ◌+◌, ◌<◌, ◌≤◌, Bool, true, false, List, [], ◌∷◌, ◌++◌, length, Option, Some, None, refl, sym, ap, subst, ◌∙◌, inl, inr, ◌⊎◌, length-append, append_assoc, arith}
use Rattle.std.specs.Prelude.{◌==◌}
use Rattle.std.proofs.lemmas.Bool.{true≢false}
use Rattle.std.proofs.lemmas.Bool.Decides.{nat_tests}
use Rattle.std.proofs.lemmas.List.{append-nil}
use Rattle.mls_base.specs.declared.outside.Keeper as keeper
use Rattle.mls_model.specs.Studies.{Sizes}
use Rattle.mls_model.specs.Numbers.{element, times}
use Rattle.mls_model.specs.Frames.{Frame}
use Rattle.mls_field.specs.declared.fold.RowFold.{Ghosts}
use Rattle.mls_held.specs.declared.run.Run as run
use Rattle.mls_poll.specs.declared.outside.PollLink as link
use Rattle.mls_hub.specs.declared.connection.Connection.{Connection}
use Rattle.mls_hub.specs.declared.connection.Stage.{Stage}
use Rattle.mls_hub.specs.declared.connection.Stage.TheVariants as stages
use Rattle.mls_hub.specs.declared.faults.Fault.{Fault}
use Rattle.mls_hub.specs.Lanes.{save_event, client_event, hub_event, with_frames}
use Rattle.mls_hub.specs.Books.{WireBook, OneMoved, TookAt, RefusedAt}
use Rattle.mls_hub.specs.Connections.{IsAt, Says, IsConnected, IsOf}
use Rattle.mls_hub.specs.Halls.{IsSeated, HallSays}
use Rattle.mls_hub.proofs.Histories.{next_event, control_event, with_own, with_other}
use Rattle.mls_hub.proofs.Elements.{same_element, same_or, within, each_moved}
use Rattle.mls_hub.proofs.Seats.{times_here, times_there, seated_took, seated_grows, seated_refused}

other_lane : (ranks i j : ℕ) → j ≢ i → ((ranks + j) == (ranks + i)) ≡ false
other_lane ranks i j ne = grind (arith, nat_tests, ne)

apart : (ranks i j : ℕ) → j ≢ i → ranks + j ≢ ranks + i
apart ranks i j ne e = ne (omega (arith, e))

-- ---- a hub that has an end

at_weaker : {L : Type 0} (U : link.Ghosts L) (s : Sizes) (lane : ℕ) (stage : Stage) (given frames lost : List Frame) (c : Connection L) → IsAt U s true lane stage given frames lost c → IsAt U s false lane stage given frames lost c
at_weaker U s lane stages.Opening given frames lost c at = at
at_weaker U s lane (stages.Answering given_as) given frames lost c at = at
at_weaker U s lane (stages.Lane rank head) given frames lost c at = at
at_weaker U s lane stages.Stopped given frames lost c at = absurd (true≢false at.0)
at_weaker U s lane (stages.Ended None) given frames lost c at = at
at_weaker U s lane (stages.Ended (Some line)) given frames lost c at = at

pub weaker : {L : Type 0} (U : link.Ghosts L) (s : Sizes) (lane : ℕ) (frames : List Frame) (c : Connection L) → IsConnected U s true lane frames c → IsConnected U s false lane frames c
weaker U s lane frames c h = record {
  given = h.given;
  says = record { has = h.says.has; said = h.says.said; fits = h.says.fits; stage = at_weaker U s lane c.stage h.given frames [] c h.says.stage };
  live = h.live;
}

pub as_strong : {L : Type 0} (U : link.Ghosts L) (s : Sizes) (lane : ℕ) (frames : List Frame) (c : Connection L) → IsConnected U s true lane frames c → IsConnected U s true lane frames c
as_strong U s lane frames c h = h

of_lane : (stage : Stage) (own head rank : ℕ) → stage ≡ stages.Lane own head → IsOf stage rank → own ≡ rank
of_lane stage own head rank e is = subst (λ (st : Stage). IsOf st rank) e is

module _ {L F K R : Type 0} (U : link.Ghosts L) (T : Ghosts F) (W : keeper.Ghosts K) (N : run.Ghosts R) where
  -- one connection changed, and the frames of no lane
  pub says_moved : (after : Bool) (books : List (WireBook F K)) (old new : List (Connection L)) (frames : ℕ → List Frame) (i : ℕ) (before now : Connection L)
      → ((lane : ℕ) (own : List Frame) (c : Connection L) → IsConnected U N.sizes true lane own c → IsConnected U N.sizes after lane own c)
      → OneMoved i old new → element old i ≡ Some before → element new i ≡ Some now → IsConnected U N.sizes after (N.sizes.ranks + i) (frames (N.sizes.ranks + i)) now
      → ((rank : ℕ) → IsOf now.stage rank → IsOf before.stage rank ⊎ (frames (N.sizes.ranks + i) ≡ []))
      → HallSays U T W N true books old frames → HallSays U T W N after books new frames
  says_moved after books old new frames i before now weak moved was is own lane h = record {
    count = h.count;
    room = subst (λ (n : ℕ). N.sizes.ranks + n ≤ N.lane_count) (sym moved.count) h.room;
    wide = h.wide;
    seated = h.seated;
    each = each_moved (λ j (c : Connection L). IsConnected U N.sizes after (N.sizes.ranks + j) (frames (N.sizes.ranks + j)) c) i old new now moved is own (λ j c ne e. weak (N.sizes.ranks + j) (frames (N.sizes.ranks + j)) c (h.each j c e));
    taken = λ j c rank book at of there. elim (same_or j i) [
      | inl e ↦ (
          let same : now ≡ c = same_element new i now c is (ap (λ k. element new k) (sym e) ∙ at) in
          let of' : IsOf now.stage rank = subst (λ (x : Connection L). IsOf x.stage rank) (sym same) of in
          let here : times (N.sizes.ranks + i) book.journal ≡ length (frames (N.sizes.ranks + i)) = elim (lane rank of') [
            | inl mine ↦ h.taken i before rank book was mine there
            | inr none ↦ (
                let few = (h.seated rank book there).within (N.sizes.ranks + i) (omega arith) in
                let size = ap length none in
                omega (arith, few, size))
          ] in
          subst (λ (k : ℕ). times (N.sizes.ranks + k) book.journal ≡ length (frames (N.sizes.ranks + k))) (sym e) here)
      | inr ne ↦ h.taken j c rank book (sym (moved.others j ne) ∙ at) of there
    ];
    unborn = λ k le. h.unborn k (subst (λ (n : ℕ). N.sizes.ranks + n ≤ k) moved.count le);
  }

  -- a frame of a lane was taken
  pub says_frame : (old_books new_books : List (WireBook F K)) (old new : List (Connection L)) (frames : ℕ → List Frame) (i rank head : ℕ) (before now : Connection L) (frame : Frame)
      → OneMoved i old new → element old i ≡ Some before → element new i ≡ Some now → before.stage ≡ stages.Lane rank head → now.stage ≡ stages.Lane rank head
      → TookAt T W rank (N.sizes.ranks + i) (client_event frame) old_books new_books
      → IsConnected U N.sizes true (N.sizes.ranks + i) (frames (N.sizes.ranks + i) ++ frame ∷ []) now
      → HallSays U T W N true old_books old frames
      → HallSays U T W N true new_books new (with_frames frames (N.sizes.ranks + i) (frames (N.sizes.ranks + i) ++ frame ∷ []))
  says_frame old_books new_books old new frames i rank head before now frame moved was is stage stage' took own h =
      let k : ℕ = N.sizes.ranks + i in
      let longer : ℕ → List Frame = with_frames frames k (frames k ++ frame ∷ []) in
      let mine : IsOf before.stage rank = subst (λ (st : Stage). IsOf st rank) (sym stage) refl in
      let count : times k took.before.journal ≡ length (frames k) = h.taken i before rank took.before was mine took.was in
      let size : length (longer k) ≡ length (frames k) + 1 = ap length (with_own frames k (frames k ++ frame ∷ [])) ∙ length-append (frames k) (frame ∷ []) in
      let there = within old i before was in
      record {
        count = took.moved.count ∙ h.count;
        room = subst (λ (n : ℕ). N.sizes.ranks + n ≤ N.lane_count) (sym moved.count) h.room;
        wide = h.wide;
        seated = each_moved (λ r (b : WireBook F K). IsSeated T W N longer r b) rank old_books new_books took.now took.moved took.is
            (seated_took T W N longer rank k (client_event frame) took.before took.now (next_event N.sizes.ranks frames k (times k took.before.journal) frame (omega arith) count) refl (λ _. omega (arith, count, size)) took.took
            (seated_grows T W N frames rank k (frame ∷ []) took.before (h.seated rank took.before took.was)))
            (λ r b ne e. seated_grows T W N frames r k (frame ∷ []) b (h.seated r b e));
        each = each_moved (λ j (c : Connection L). IsConnected U N.sizes true (N.sizes.ranks + j) (longer (N.sizes.ranks + j)) c) i old new now moved is
            (subst (λ (fs : List Frame). IsConnected U N.sizes true k fs now) (sym (with_own frames k (frames k ++ frame ∷ []))) own)
            (λ j c ne e. subst (λ (fs : List Frame). IsConnected U N.sizes true (N.sizes.ranks + j) fs c) (sym (with_other frames k (N.sizes.ranks + j) (frames k ++ frame ∷ []) (other_lane N.sizes.ranks i j ne))) (h.each j c e));
        taken = λ j c r book at of in_place. elim (same_or j i) [
          | inl e ↦ (
              let same : now ≡ c = same_element new i now c is (ap (λ m. element new m) (sym e) ∙ at) in
              let of' : IsOf now.stage r = subst (λ (x : Connection L). IsOf x.stage r) (sym same) of in
              let at_rank : rank ≡ r = of_lane now.stage rank head r stage' of' in
              let the_book : took.now ≡ book = same_element new_books rank took.now book took.is (ap (λ m. element new_books m) at_rank ∙ in_place) in
              let one : times k took.now.journal ≡ times k took.before.journal + 1 = ap (λ (xs : List ℕ). times k xs) took.took.journal ∙ times_here k took.before.journal in
              let now_count : times k book.journal ≡ length (longer k) = ap (λ (b : WireBook F K). times k b.journal) (sym the_book) ∙ omega (arith, one, count, size) in
              subst (λ (m : ℕ). times (N.sizes.ranks + m) book.journal ≡ length (longer (N.sizes.ranks + m))) (sym e) now_count)
          | inr ne ↦ (
              let was' : element old j ≡ Some c = sym (moved.others j ne) ∙ at in
              let lane : ℕ = N.sizes.ranks + j in
              let frames_same : longer lane ≡ frames lane = with_other frames k lane (frames k ++ frame ∷ []) (other_lane N.sizes.ranks i j ne) in
              elim (same_or r rank) [
                | inl e ↦ (
                    let the_book : took.now ≡ book = same_element new_books rank took.now book took.is (ap (λ m. element new_books m) (sym e) ∙ in_place) in
                    let of_rank : IsOf c.stage rank = subst (λ (m : ℕ). IsOf c.stage m) e of in
                    let old_count : times lane took.before.journal ≡ length (frames lane) = h.taken j c rank took.before was' of_rank took.was in
                    let same : times lane took.now.journal ≡ times lane took.before.journal = ap (λ (xs : List ℕ). times lane xs) took.took.journal ∙ times_there lane k took.before.journal (apart N.sizes.ranks i j ne) in
                    ap (λ (b : WireBook F K). times lane b.journal) (sym the_book) ∙ same ∙ old_count ∙ ap length (sym frames_same))
                | inr other ↦ h.taken j c r book was' of (sym (took.moved.others r other) ∙ in_place) ∙ ap length (sym frames_same)
              ])
        ];
        unborn = λ m le.
            let le' = subst (λ (n : ℕ). N.sizes.ranks + n ≤ m) moved.count le in
            let ne : (m == k) ≡ false = (let lt : k < m = omega (arith, le', there) in grind (arith, nat_tests, lt)) in
            with_other frames k m (frames k ++ frame ∷ []) ne ∙ h.unborn m le';
      }

  -- a book took an event of its control lane
  pub says_saved : (going : Bool) (old_books new_books : List (WireBook F K)) (connections : List (Connection L)) (frames : ℕ → List Frame) (rank : ℕ) → rank < N.sizes.ranks → TookAt T W rank rank save_event old_books new_books
      → HallSays U T W N going old_books connections frames → HallSays U T W N going new_books connections frames
  says_saved going old_books new_books connections frames rank lt took h = record {
    count = took.moved.count ∙ h.count;
    room = h.room;
    wide = h.wide;
    seated = each_moved (λ r (b : WireBook F K). IsSeated T W N frames r b) rank old_books new_books took.now took.moved took.is
        (seated_took T W N frames rank rank save_event took.before took.now (control_event N.sizes.ranks frames rank (times rank took.before.journal) lt) refl (λ le. absurd (omega (arith, le, lt))) took.took (h.seated rank took.before took.was))
        (λ r b ne e. h.seated r b e);
    each = h.each;
    taken = λ j c r book at of in_place. elim (same_or r rank) [
      | inl e ↦ (
          let the_book : took.now ≡ book = same_element new_books rank took.now book took.is (ap (λ m. element new_books m) (sym e) ∙ in_place) in
          let of_rank : IsOf c.stage rank = subst (λ (m : ℕ). IsOf c.stage m) e of in
          let same : times (N.sizes.ranks + j) took.now.journal ≡ times (N.sizes.ranks + j) took.before.journal = ap (λ (xs : List ℕ). times (N.sizes.ranks + j) xs) took.took.journal ∙ times_there (N.sizes.ranks + j) rank took.before.journal (λ clash. omega (arith, clash, lt)) in
          ap (λ (b : WireBook F K). times (N.sizes.ranks + j) b.journal) (sym the_book) ∙ same ∙ h.taken j c rank took.before at of_rank took.was)
      | inr other ↦ h.taken j c r book at of (sym (took.moved.others r other) ∙ in_place)
    ];
    unborn = h.unborn;
  }

  -- a book didn't take an event
  pub says_refused : (going : Bool) (old_books new_books : List (WireBook F K)) (connections : List (Connection L)) (frames : ℕ → List Frame) (rank : ℕ) (fault : Fault) → RefusedAt T W rank fault old_books new_books
      → HallSays U T W N going old_books connections frames → HallSays U T W N going new_books connections frames
  says_refused going old_books new_books connections frames rank fault r h = record {
    count = r.moved.count ∙ h.count;
    room = h.room;
    wide = h.wide;
    seated = each_moved (λ k (b : WireBook F K). IsSeated T W N frames k b) rank old_books new_books r.now r.moved r.is
        (seated_refused T W N frames rank r.refusal r.before r.now r.refused (h.seated rank r.before r.was))
        (λ k b ne e. h.seated k b e);
    each = h.each;
    taken = λ j c k book at of in_place. elim (same_or k rank) [
      | inl e ↦ (
          let the_book : r.now ≡ book = same_element new_books rank r.now book r.is (ap (λ m. element new_books m) (sym e) ∙ in_place) in
          let of_rank : IsOf c.stage rank = subst (λ (m : ℕ). IsOf c.stage m) e of in
          ap (λ (b : WireBook F K). times (N.sizes.ranks + j) b.journal) (sym the_book) ∙ ap (λ (xs : List ℕ). times (N.sizes.ranks + j) xs) r.refused.journal ∙ h.taken j c rank r.before at of_rank r.was)
      | inr other ↦ h.taken j c k book at of (sym (r.moved.others k other) ∙ in_place)
    ];
    unborn = h.unborn;
  }

  pub says_weaker : (books : List (WireBook F K)) (connections : List (Connection L)) (frames : ℕ → List Frame) → HallSays U T W N true books connections frames → HallSays U T W N false books connections frames
  says_weaker books connections frames h = record {
    count = h.count;
    room = h.room;
    wide = h.wide;
    seated = h.seated;
    each = λ i c e. weaker U N.sizes (N.sizes.ranks + i) (frames (N.sizes.ranks + i)) c (h.each i c e);
    taken = h.taken;
    unborn = h.unborn;
  }

-- What a poll of a stream says of the frames that it gave and of the bytes that were read.
use Rattle.std.proofs.Common.{◌≡◌, ℕ, ◌+◌, ◌≤◌, List, [], ◌∷◌, ◌++◌, length, drop, map, Bool, true, false, Option, Some, None, Result, Ok, Err, IfSome, refl, sym, ap, subst, ◌∙◌, append_assoc, arith}
use Rattle.std.specs.List.{AllByRecursion}
use Rattle.std.proofs.Math.Seq.{drop-append_seam}
use Rattle.std.proofs.lemmas.List.{append-nil, length-append, map-append}
use Rattle.std.proofs.lemmas.Grind.{flat_map-append}
use Rattle.futures.specs.declared.task.Poll.{Poll}
use Rattle.futures.specs.declared.task.Poll.TheVariants.{Ready, Pending}
use Rattle.mls_base.specs.Told.{MayCease}
use Rattle.mls_model.specs.declared.lanes.LaneEnd.{LaneEnd}
use Rattle.mls_model.specs.Numbers.{joined}
use Rattle.mls_model.specs.Frames.{Frame, IsFrame, spelling, Sight, whole, more, bad, sight}
use Rattle.mls_model.specs.Lanes.{lane_frames, lane_rest}
use Rattle.mls_frame.specs.Views.{AreBytes}
use Rattle.mls_frame.specs.Feeding.{IsNoFrame}
use Rattle.mls_frame.proofs.Again.{seen_again}
use Rattle.mls_tape.proofs.LaneLemmas.{IsNone, lane_step, lane_stop}
use Rattle.mls_wire.specs.Links.{Talk, after_write}
use Rattle.futures.specs.Poll.{OnPending}
use Rattle.mls_base.specs.declared.faults.Failed.{Failed}
use Rattle.mls_poll.specs.Polls.{IfGiven, OnFailed}
use Rattle.mls_poll.specs.Reads.{HasRead}
use Rattle.mls_poll.specs.Streams.{most_bytes, HasGiven, frames_of, frames_given, OnEnd, IfEnd, EndsBy, EndsLane, OfRead, taken_of, is_fault, is_fault_given, CountsEnd, Leaves, ReadsOn}
use Rattle.mls_poll.specs.Looks.{Moving, Gathers, Gives, GivesFrame, Comes, Goes}
use Rattle.mls_poll.specs.declared.stream.StreamItem.{StreamItem}
use Rattle.mls_poll.specs.declared.stream.StreamItem.TheVariants as items
use Rattle.mls_poll.proofs.Had.{read_none}
use Rattle.mls_poll.proofs.Stepping.{bytes_behind, bytes_both, no_bytes}

abbrev spelled : List Frame → List ℕ
spelled frames = joined (map spelling frames)

pub joined-append : (fs gs : List Frame) → joined (map spelling (fs ++ gs)) ≡ joined (map spelling fs) ++ joined (map spelling gs)
joined-append fs gs = ap joined (map-append spelling fs gs) ∙ flat_map-append (λ p. p) (map spelling fs) (map spelling gs)

all-append : (fs gs : List Frame) → AllByRecursion IsFrame fs → AllByRecursion IsFrame gs → AllByRecursion IsFrame (fs ++ gs)
all-append [] gs p q = q
all-append (f ∷ fs) gs p q = (p.0, all-append fs gs p.1 q)

pub one_length : (f : Frame) → length (spelling f) ≡ length (joined (map spelling (f ∷ [])))
one_length f = ap length (sym (append-nil (spelling f)))

-- nothing was given yet
pub given_none : (told : Option Talk) → IfSome told (λ talk. talk.read ≡ []) → HasGiven told 0 [] []
given_none told h = record { each = tt; taken = refl; bytes = no_bytes; kept = h }

same_told : (told now : Option Talk) (offset : ℕ) (held : List ℕ) (fs : List Frame) (b : Bool) → Leaves b told now → HasGiven told offset held fs → HasGiven now offset held fs
same_told told None offset held fs b l h = record { each = h.each; taken = h.taken; bytes = h.bytes; kept = tt }
same_told told (Some talk) offset held fs true l h = record { each = h.each; taken = h.taken; bytes = h.bytes; kept = subst (λ (o : Option Talk). IfSome o (λ t. t.read ≡ spelled fs ++ held)) l h.kept }
same_told told (Some talk) offset held fs false l h = record { each = h.each; taken = h.taken; bytes = h.bytes; kept = subst (λ (o : Option Talk). IfSome o (λ t. t.read ≡ spelled fs ++ held)) (sym l) h.kept }

pub given_cease : (told now : Option Talk) (offset : ℕ) (held : List ℕ) (fs : List Frame) → MayCease told now → HasGiven told offset held fs → HasGiven now offset held fs
given_cease told now offset held fs c h = same_told told now offset held fs true c h

kept_read : (front held piece : List ℕ) (old new : Option Talk) → HasRead piece old new → IfSome old (λ t. t.read ≡ front ++ held) → IfSome new (λ t. t.read ≡ front ++ (held ++ piece))
kept_read front held piece None None r k = tt
kept_read front held piece None (Some new) r k = absurd r
kept_read front held piece (Some old) None r k = tt
kept_read front held piece (Some old) (Some new) r k = r.read ∙ ap (λ (xs : List ℕ). xs ++ piece) k ∙ append_assoc front held piece

given_gathers : (offset : ℕ) (a b : Moving) (fs : List Frame) → Gathers offset a b → HasGiven a.told offset a.held fs → HasGiven b.told offset b.held fs
given_gathers offset a b fs g h = record {
  each = h.each;
  taken = h.taken;
  bytes = subst (λ (xs : List ℕ). AreBytes (spelled fs ++ xs)) (sym g.held) (subst AreBytes (append_assoc (spelled fs) a.held g.piece) (bytes_both (spelled fs ++ a.held) g.piece h.bytes g.are_bytes));
  kept = subst (λ (xs : List ℕ). IfSome b.told (λ t. t.read ≡ spelled fs ++ xs)) (sym g.held) (kept_read (spelled fs) a.held g.piece a.told b.told g.read h.kept);
}

given_frame : (offset : ℕ) (a b : Moving) (fs : List Frame) (f : Frame) → GivesFrame f a b → HasGiven a.told offset a.held fs → HasGiven b.told (offset + length (spelled (f ∷ []))) b.held (fs ++ f ∷ [])
given_frame offset a b fs f g h =
    let all = joined-append fs (f ∷ []) in
    let behind : spelled (f ∷ []) ++ b.held ≡ a.held = ap (λ (xs : List ℕ). xs ++ b.held) (append-nil (spelling f)) ∙ sym g.cuts.split in
    let same : spelled (fs ++ f ∷ []) ++ b.held ≡ spelled fs ++ a.held =
    ap (λ (xs : List ℕ). xs ++ b.held) all ∙ append_assoc (spelled fs) (spelled (f ∷ [])) b.held ∙ ap (λ (xs : List ℕ). spelled fs ++ xs) behind in
    record {
      each = all-append fs (f ∷ []) h.each (g.cuts.fits, tt);
      taken = omega (arith, h.taken, ap length all, length-append (spelled fs) (spelled (f ∷ [])));
      bytes = subst AreBytes (sym same) h.bytes;
      kept = subst (λ (o : Option Talk). IfSome o (λ t. t.read ≡ spelled (fs ++ f ∷ []) ++ b.held)) (sym g.told) (subst (λ (xs : List ℕ). IfSome a.told (λ t. t.read ≡ xs)) (sym same) h.kept);
    }

given_held : (told : Option Talk) (offset after : ℕ) (held now : List ℕ) (fs : List Frame) → now ≡ held → after ≡ offset → HasGiven told offset held fs → HasGiven told after now (fs ++ [])
given_held told offset after held now fs e k h =
    subst (λ (n : ℕ). HasGiven told n now (fs ++ [])) (sym k) (subst (λ (xs : List ℕ). HasGiven told offset xs (fs ++ [])) (sym e) (subst (λ (gs : List Frame). HasGiven told offset held gs) (sym (append-nil fs)) h))

given_item : (item : StreamItem) (offset : ℕ) (a b : Moving) (fs : List Frame) → Gives item offset a b → HasGiven a.told offset a.held fs → HasGiven b.told (offset + length (spelled (frames_of item))) b.held (fs ++ frames_of item)
given_item (items.Event f) offset a b fs g h = given_frame offset a b fs f g h
given_item (items.End end) offset a b fs g h = given_held b.told offset _ a.held b.held fs g.held (omega arith) (same_told a.told b.told offset a.held fs _ g.told h)
given_item items.Memory offset a b fs g h = given_held b.told offset _ a.held b.held fs g.held (omega arith) (same_told a.told b.told offset a.held fs false g.told h)

given_at : (told : Option Talk) (offset after : ℕ) (held : List ℕ) (fs : List Frame) → after ≡ offset → HasGiven told offset held fs → HasGiven told after held fs
given_at told offset after held fs e h = subst (λ (n : ℕ). HasGiven told n held fs) (sym e) h

-- what is given, followed by what is held, is what was read
pub given_goes : (ended : Bool) (answer : Poll (Option StreamItem)) (offset after : ℕ) (old new : Moving) → Goes ended answer offset after old new → (fs : List Frame) → HasGiven old.told offset old.held fs → HasGiven new.told after new.held (fs ++ frames_given answer)
given_goes true answer offset after old new g fs h =
    subst (λ (a : Poll (Option StreamItem)). HasGiven new.told after new.held (fs ++ frames_given a)) (sym g.0)
    (given_held new.told offset after old.held new.held fs g.1.0.held g.1.1 (same_told old.told new.told offset old.held fs false g.1.0.told h))
given_goes false (Ready None) offset after old new g fs h = absurd g
given_goes false (Ready (Some item)) offset after old new g fs h =
    given_at new.told _ after new.held (fs ++ frames_of item) g.1 (given_item item offset g.0.mid new fs g.0.gives (given_gathers offset old g.0.mid fs g.0.gathers h))
given_goes false Pending offset after old new g fs h =
    given_held new.told offset after new.held new.held fs refl g.1 (given_gathers offset old new fs g.0.gathers h)

-- the frames of bytes that begin with the spellings of some
frames_go_on : (fs : List Frame) (rest : List ℕ) → AllByRecursion IsFrame fs → AreBytes (spelled fs ++ rest)
    → (lane_frames (spelled fs ++ rest) ≡ fs ++ lane_frames rest) × (lane_rest (spelled fs ++ rest) ≡ lane_rest rest)
frames_go_on [] rest each h = (refl, refl)
frames_go_on (f ∷ fs) rest each h =
    let tail = spelled fs ++ rest in
    let assoc : spelled (f ∷ fs) ++ rest ≡ spelling f ++ tail = append_assoc (spelling f) (spelled fs) rest in
    let fit : AreBytes (spelling f ++ tail) = subst AreBytes assoc h in
    let s = lane_step (spelling f ++ tail) f (length (spelling f)) fit (seen_again f tail each.0) in
    let d : drop (length (spelling f)) (spelling f ++ tail) ≡ tail = drop-append_seam (spelling f) tail in
    let r = frames_go_on fs rest each.1 (bytes_behind (spelling f) tail fit) in (
      ap (λ (xs : List ℕ). lane_frames xs) assoc ∙ s.0 ∙ ap (λ (xs : List ℕ). f ∷ lane_frames xs) d ∙ ap (λ (gs : List Frame). f ∷ gs) r.0,
      ap (λ (xs : List ℕ). lane_rest xs) assoc ∙ s.1 ∙ ap (λ (xs : List ℕ). lane_rest xs) d ∙ r.1,
    )

is_none : (s : Sight) → IsNoFrame s → IsNone s
is_none (whole f used) h = h
is_none more h = tt
is_none (bad fault) h = tt

-- the frames are all, and the stream ends as the lane does
lane_ends : (end : LaneEnd) (told : Option Talk) (offset : ℕ) (held : List ℕ) (before now : ℕ) (fs : List Frame) (bytes : List ℕ) → IsNoFrame (sight held) → EndsBy end offset held (offset + length held) told before now
    → AllByRecursion IsFrame fs → offset ≡ length (spelled fs) → AreBytes (spelled fs ++ held) → bytes ≡ spelled fs ++ held → EndsLane end fs told before now bytes
lane_ends end told offset held before now fs bytes none e each taken h split =
    let g = frames_go_on fs held each h in
    let stop = lane_stop held (sight held) refl (is_none (sight held) none) in
    let frames : lane_frames bytes ≡ fs = ap (λ (xs : List ℕ). lane_frames xs) split ∙ g.0 ∙ ap (λ (gs : List Frame). fs ++ gs) stop.0 ∙ append-nil fs in
    let rest : lane_rest bytes ≡ held = ap (λ (xs : List ℕ). lane_rest xs) split ∙ g.1 ∙ stop.1 in
    let place : offset ≡ taken_of bytes = taken ∙ ap (λ (gs : List Frame). length (spelled gs)) (sym frames) in
    let size : offset + length held ≡ length bytes = omega (arith, taken, ap length split, length-append (spelled fs) held) in
    let P : ℕ → List ℕ → ℕ → Type 0 = λ n xs k. EndsBy end n xs k told before now in
    record { events = frames; ends = subst (λ (k : ℕ). P (taken_of bytes) (lane_rest bytes) k) size (subst (λ (xs : List ℕ). P (taken_of bytes) xs (offset + length held)) (sym rest) (subst (λ (n : ℕ). P n held (offset + length held)) place e)) }

lane_told : (end : LaneEnd) (told now : Option Talk) (offset : ℕ) (held : List ℕ) (before count : ℕ) (fs : List Frame) → IsNoFrame (sight held) → EndsBy end offset held (offset + length held) told before count → HasGiven now offset held fs → OfRead now (λ bytes. EndsLane end fs told before count bytes)
lane_told end told None offset held before count fs none e h = tt
lane_told end told (Some talk) offset held before count fs none e h = lane_ends end told offset held before count fs talk.read none e h.each h.taken h.bytes h.kept

lane_item : (item : StreamItem) (offset : ℕ) (a b : Moving) (fs : List Frame) → Gives item offset a b → HasGiven a.told offset a.held fs → OnEnd item (λ end. OfRead b.told (λ bytes. EndsLane end fs b.told a.faults b.faults bytes))
lane_item (items.Event f) offset a b fs g h = tt
lane_item (items.End end) offset a b fs g h = lane_told end b.told b.told offset a.held a.faults b.faults fs g.none g.ends (same_told a.told b.told offset a.held fs _ g.told h)
lane_item items.Memory offset a b fs g h = tt

same_before : (item : StreamItem) (told : Option Talk) (fs : List Frame) (a b now : ℕ) → b ≡ a → OnEnd item (λ end. OfRead told (λ bytes. EndsLane end fs told b now bytes)) → OnEnd item (λ end. OfRead told (λ bytes. EndsLane end fs told a now bytes))
same_before item told fs a b now e h = subst (λ (n : ℕ). OnEnd item (λ end. OfRead told (λ bytes. EndsLane end fs told n now bytes))) e h

none_ends : (answer : Poll (Option StreamItem)) (P : LaneEnd → Type 0) → answer ≡ Ready None → IfEnd answer P
none_ends answer P e = subst (λ (a : Poll (Option StreamItem)). IfEnd a P) (sym e) tt

-- at the end the frames are those of the lane, and the end is the lane's
pub lane_goes : (ended : Bool) (answer : Poll (Option StreamItem)) (offset after : ℕ) (old new : Moving) → Goes ended answer offset after old new → (fs : List Frame) → HasGiven old.told offset old.held fs → IfEnd answer (λ end. OfRead new.told (λ bytes. EndsLane end fs new.told old.faults new.faults bytes))
lane_goes true answer offset after old new g fs h = none_ends answer _ g.0
lane_goes false (Ready None) offset after old new g fs h = tt
lane_goes false (Ready (Some item)) offset after old new g fs h =
    same_before item new.told fs old.faults g.0.mid.faults new.faults g.0.gathers.faults (lane_item item offset g.0.mid new fs g.0.gives (given_gathers offset old g.0.mid fs g.0.gathers h))
lane_goes false Pending offset after old new g fs h = tt

ends_item : (item : StreamItem) (offset after before : ℕ) (a b : Moving) → Gives item offset a b → a.faults ≡ before → after ≡ offset + length (spelled (frames_of item)) → OnEnd item (λ end. EndsBy end after b.held (after + length b.held) b.told before b.faults)
ends_item (items.Event f) offset after before a b g e k = tt
ends_item (items.End end) offset after before a b g e k =
    let place : offset ≡ after = omega (arith, k) in
    let P : ℕ → List ℕ → ℕ → Type 0 = λ n xs c. EndsBy end n xs (n + length xs) b.told c b.faults in
    subst (λ (n : ℕ). P n b.held before) place (subst (λ (xs : List ℕ). P offset xs before) (sym g.held) (subst (λ (c : ℕ). P offset a.held c) e g.ends))
ends_item items.Memory offset after before a b g e k = tt

-- how the end is told by what is held
pub ends_goes : (ended : Bool) (answer : Poll (Option StreamItem)) (offset after : ℕ) (old new : Moving) → Goes ended answer offset after old new → IfEnd answer (λ end. EndsBy end after new.held (after + length new.held) new.told old.faults new.faults)
ends_goes true answer offset after old new g = none_ends answer _ g.0
ends_goes false (Ready None) offset after old new g = tt
ends_goes false (Ready (Some item)) offset after old new g = ends_item item offset after old.faults g.0.mid new g.0.gives g.0.gathers.faults g.1
ends_goes false Pending offset after old new g = tt

counts_item : (item : StreamItem) (offset before : ℕ) (a b : Moving) → Gives item offset a b → a.faults ≡ before → CountsEnd (is_fault item) before b.faults
counts_item (items.Event f) offset before a b g e = g.faults ∙ e
counts_item (items.End end) offset before a b g e = subst (λ (c : ℕ). CountsEnd (is_fault (items.End end)) c b.faults) e g.faults
counts_item items.Memory offset before a b g e = g.faults ∙ e

pub counts_goes : (ended : Bool) (answer : Poll (Option StreamItem)) (offset after : ℕ) (old new : Moving) → Goes ended answer offset after old new → CountsEnd (is_fault_given answer) old.faults new.faults
counts_goes true answer offset after old new g = subst (λ (a : Poll (Option StreamItem)). CountsEnd (is_fault_given a) old.faults new.faults) (sym g.0) g.1.0.faults
counts_goes false (Ready None) offset after old new g = absurd g
counts_goes false (Ready (Some item)) offset after old new g = counts_item item offset old.faults g.0.mid new g.0.gives g.0.gathers.faults
counts_goes false Pending offset after old new g = g.0.gathers.faults

leaves_item : (item : StreamItem) (offset : ℕ) (a b : Moving) → Gives item offset a b → Leaves (is_fault item) a.told b.told
leaves_item (items.Event f) offset a b g = g.told
leaves_item (items.End end) offset a b g = g.told
leaves_item items.Memory offset a b g = g.told

pub reads_goes : (ended : Bool) (answer : Poll (Option StreamItem)) (offset after : ℕ) (old new : Moving) → Goes ended answer offset after old new → ReadsOn (is_fault_given answer) old.told new.told
reads_goes true answer offset after old new g = subst (λ (a : Poll (Option StreamItem)). ReadsOn (is_fault_given a) old.told new.told) (sym g.0) (record { piece = []; mid = old.told; read = read_none old.told; leaves = g.1.0.told })
reads_goes false (Ready None) offset after old new g = absurd g
reads_goes false (Ready (Some item)) offset after old new g = record { piece = g.0.gathers.piece; mid = g.0.mid.told; read = g.0.gathers.read; leaves = leaves_item item offset g.0.mid new g.0.gives }
reads_goes false Pending offset after old new g = record { piece = g.0.gathers.piece; mid = new.told; read = g.0.gathers.read; leaves = refl }

-- what is taken off and what is held are no more than a stream may have
pub item_fits : (item : StreamItem) (offset : ℕ) (old new : Moving) → Comes item offset old new → (offset + length (spelled (frames_of item))) + length new.held ≤ most_bytes
item_fits (items.Event f) offset old new c = omega (arith, c.gathers.few, ap length c.gives.cuts.split, length-append (spelling f) new.held, one_length f)
item_fits (items.End end) offset old new c = omega (arith, c.gathers.few, ap length c.gives.held)
item_fits items.Memory offset old new c = omega (arith, c.gathers.few, ap length c.gives.held)

given_writes : (bytes : List ℕ) (old : Option Talk) (offset : ℕ) (held : List ℕ) (fs : List Frame) → HasGiven old offset held fs → HasGiven (after_write bytes old) offset held fs
given_writes bytes None offset held fs h = record { each = h.each; taken = h.taken; bytes = h.bytes; kept = tt }
given_writes bytes (Some talk) offset held fs h = record { each = h.each; taken = h.taken; bytes = h.bytes; kept = h.kept }

-- a write changes nothing of what was read
pub given_write : (answer : Poll (Result ℕ Failed)) (front : ℕ → List ℕ) (old new : Option Talk) (offset : ℕ) (held : List ℕ) (fs : List Frame)
    → IfGiven answer (λ n. new ≡ after_write (front n) old) → OnFailed answer (MayCease old new) → OnPending answer (new ≡ old)
    → HasGiven old offset held fs → HasGiven new offset held fs
given_write (Ready (Ok n)) front old new offset held fs w f p h = subst (λ (o : Option Talk). HasGiven o offset held fs) (sym w) (given_writes (front n) old offset held fs h)
given_write (Ready (Err e)) front old new offset held fs w f p h = given_cease old new offset held fs f h
given_write Pending front old new offset held fs w f p h = subst (λ (o : Option Talk). HasGiven o offset held fs) (sym p) h

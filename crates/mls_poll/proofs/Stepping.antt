-- What reads of a polled link come to.
use Rattle.std.proofs.Common.{◌≡◌, ℕ, zero, suc, ◌+◌, ◌≤◌, ◌<◌, List, [], ◌∷◌, ◌++◌, length, true, Option, Some, None, IfSome, Result, Ok, Err, refl, sym, ap, subst, ◌∙◌, append_assoc, arith}
use Rattle.std.proofs.lemmas.List.{append-nil}
use Rattle.mls_base.specs.Told.{MayCease, Rose}
use Rattle.mls_model.specs.declared.lanes.LaneEnd.{LaneEnd}
use Rattle.mls_model.specs.declared.lanes.LaneEnd.TheVariants as ends
use Rattle.mls_model.specs.declared.lanes.FrameFault.{FrameFault}
use Rattle.mls_model.specs.declared.lanes.FrameFault.TheVariants.{BadKind, BadLength}
use Rattle.mls_model.specs.Frames.{Sight, whole, more, bad, sight}
use Rattle.mls_model.specs.Lanes.{end_by, end_at}
use Rattle.mls_frame.specs.Views.{AreBytes}
use Rattle.mls_frame.specs.Feeding.{IsNoFrame}
use Rattle.mls_wire.specs.Links.{Talk}
use Rattle.mls_poll.specs.Reads.{HasRead}
use Rattle.futures.specs.declared.task.Poll.TheVariants.{Ready}
use Rattle.mls_poll.specs.Polls.{IfGiven}
use Rattle.mls_poll.specs.declared.reading.ReadFault.{ReadFault}
use Rattle.mls_poll.specs.declared.reading.ReadFault.TheVariants.{Failed, Memory}
use Rattle.mls_poll.specs.Steps.{is_more, ReadsPiece, Refuses, CountsRead}
use Rattle.mls_poll.specs.Streams.{most_bytes, IsGood, InputEnded, EndsBy, CountsEnd, Leaves, is_fault}
use Rattle.mls_poll.specs.Looks.{Takes, Moving, Gathers, Gives, GivesEnd, Comes, Waits, Grows, Reads}
use Rattle.mls_poll.specs.declared.stream.StreamItem.{StreamItem}
use Rattle.mls_poll.specs.declared.stream.StreamItem.TheVariants as items
use Rattle.mls_poll.proofs.Had.{read_none, read_more}

pub bytes_behind : (xs ys : List ℕ) → AreBytes (xs ++ ys) → AreBytes ys
bytes_behind [] ys h = h
bytes_behind (x ∷ xs) ys h = bytes_behind xs ys (λ (k : ℕ). h (suc k))

pub bytes_both : (xs ys : List ℕ) → AreBytes xs → AreBytes ys → AreBytes (xs ++ ys)
bytes_both [] ys h k i = k i
bytes_both (x ∷ xs) ys h k zero = h 0
bytes_both (x ∷ xs) ys h k (suc i) = bytes_both xs ys (λ (j : ℕ). h (suc j)) k i

pub no_bytes : AreBytes []
no_bytes zero = omega arith
no_bytes (suc i) = omega arith

pub gathers_none : (offset : ℕ) (m : Moving) → offset + length m.held ≤ most_bytes → Gathers offset m m
gathers_none offset m few = record { piece = []; are_bytes = no_bytes; read = read_none m.told; held = sym (append-nil m.held); faults = refl; few = few }

pub gathers_more : (offset : ℕ) (a b c : Moving) → Gathers offset a b → Gathers offset b c → Gathers offset a c
gathers_more offset a b c p q = record {
  piece = p.piece ++ q.piece;
  are_bytes = bytes_both p.piece q.piece p.are_bytes q.are_bytes;
  read = read_more p.piece q.piece a.told b.told c.told p.read q.read;
  held = q.held ∙ ap (λ xs. xs ++ q.piece) p.held ∙ append_assoc a.held p.piece q.piece;
  faults = q.faults ∙ p.faults;
  few = q.few;
}

pub comes_more : (item : StreamItem) (offset : ℕ) (a b c : Moving) → Gathers offset a b → Comes item offset b c → Comes item offset a c
comes_more item offset a b c p q = record { mid = q.mid; gathers = gathers_more offset a b q.mid p q.gathers; gives = q.gives }

pub waits_more : (offset : ℕ) (a b c : Moving) → Gathers offset a b → Waits offset b c → Waits offset a c
waits_more offset a b c p q = record { gathers = gathers_more offset a b c p q.gathers; few = q.few }

-- what is too little to tell
more_by : (s : Sight) → is_more s ≡ true → s ≡ more
more_by (whole f used) e = cc
more_by more e = refl
more_by (bad fault) e = cc

no_frame_by : (s : Sight) → is_more s ≡ true → IsNoFrame s
no_frame_by (whole f used) e = cc
no_frame_by more e = tt
no_frame_by (bad fault) e = tt

good_more : (taken : ℕ) (rest : List ℕ) → sight rest ≡ more → IsGood (end_at taken rest)
unfolding end_at
good_more taken [] e = tt
good_more taken (b ∷ rest) e = rw e tt

bad_end : (taken : ℕ) (rest : List ℕ) (fault : FrameFault) → sight rest ≡ bad fault → end_at taken rest ≡ end_by taken (bad fault)
unfolding end_at sight
bad_end taken [] fault e = absurd cc
bad_end taken (b ∷ rest) fault e = ap (λ (s : Sight). end_by taken s) e

-- the end of the input
input_ends : (end : LaneEnd) (taken : ℕ) (rest : List ℕ) (size : ℕ) (told : Option Talk) (before : ℕ) → IsGood end → InputEnded end taken rest size told → EndsBy end taken rest size told before before
input_ends ends.Clean taken rest size told before good h = h
input_ends (ends.Cut at) taken rest size told before good h = h
input_ends (ends.BadKind at) taken rest size told before good h = absurd good
input_ends (ends.BadLength at) taken rest size told before good h = absurd good
input_ends (ends.Fault at) taken rest size told before good h = absurd good
input_ends (ends.Full at) taken rest size told before good h = absurd good

leaves_good : (end : LaneEnd) (told : Option Talk) → IsGood end → Leaves (is_fault (items.End end)) told told
leaves_good ends.Clean told good = refl
leaves_good (ends.Cut at) told good = refl
leaves_good (ends.BadKind at) told good = absurd good
leaves_good (ends.BadLength at) told good = absurd good
leaves_good (ends.Fault at) told good = absurd good
leaves_good (ends.Full at) told good = absurd good

counts_good : (end : LaneEnd) (faults : ℕ) → IsGood end → CountsEnd (is_fault (items.End end)) faults faults
counts_good ends.Clean faults good = refl
counts_good (ends.Cut at) faults good = refl
counts_good (ends.BadKind at) faults good = absurd good
counts_good (ends.BadLength at) faults good = absurd good
counts_good (ends.Fault at) faults good = absurd good
counts_good (ends.Full at) faults good = absurd good

pub is_full : (offset : ℕ) (m : Moving) → is_more (sight m.held) ≡ true → offset + length m.held ≡ most_bytes → Comes (items.End (ends.Full offset)) offset m m
is_full offset m e full = record {
  mid = m;
  gathers = gathers_none offset m (omega (arith, full));
  gives = record {
    none = no_frame_by (sight m.held) e;
    ends = record { here = refl; full = full; good = good_more offset m.held (more_by (sight m.held) e) };
    held = refl;
    told = refl;
    faults = refl;
  };
}

pub has_failed : (offset : ℕ) (old new : Moving) → is_more (sight old.held) ≡ true → offset + length old.held < most_bytes → MayCease old.told new.told → new.held ≡ old.held → Rose old.faults new.faults → Comes (items.End (ends.Fault offset)) offset old new
has_failed offset old new e few ceased held rose = record {
  mid = old;
  gathers = gathers_none offset old (omega (arith, few));
  gives = record {
    none = no_frame_by (sight old.held) e;
    ends = record { here = refl; few = few; rose = rose };
    held = held;
    told = ceased;
    faults = rose;
  };
}

pub no_memory : (offset : ℕ) (old new : Moving) → offset + length old.held ≤ most_bytes → new.told ≡ old.told → new.held ≡ old.held → new.faults ≡ old.faults → Comes items.Memory offset old new
no_memory offset old new few told held faults = record { mid = old; gathers = gathers_none offset old few; gives = record { told = told; faults = faults; held = held } }

is_nothing : (xs : List ℕ) → length xs ≡ 0 → xs ≡ []
is_nothing [] e = refl
is_nothing (x ∷ xs) e = absurd cc

left_nothing : (piece : List ℕ) (old new : Option Talk) → piece ≡ [] → HasRead piece old new → IfSome old (λ talk. talk.left ≡ []) → IfSome new (λ talk. talk.left ≡ [])
left_nothing piece None None e p h = tt
left_nothing piece None (Some new) e p h = absurd p
left_nothing piece (Some old) None e p h = tt
left_nothing piece (Some old) (Some new) e p h = sym (ap (λ xs. xs ++ new.left) e) ∙ sym p.left ∙ h

pub has_ended : (end : LaneEnd) (offset : ℕ) (old new : Moving) → is_more (sight old.held) ≡ true → offset + length old.held < most_bytes → ReadsPiece 0 old.told new.told old.held new.held → new.faults ≡ old.faults → end ≡ end_at offset new.held → Comes (items.End end) offset old new
has_ended end offset old new e few read faults is =
    let none = is_nothing read.piece read.size in
    let same : new.held ≡ old.held = read.held_is ∙ ap (λ xs. old.held ++ xs) none ∙ append-nil old.held in
    let seen : is_more (sight new.held) ≡ true = ap (λ xs. is_more (sight xs)) same ∙ e in
    let good : IsGood end = subst IsGood (sym is) (good_more offset new.held (more_by (sight new.held) seen)) in
    record {
      mid = new;
      gathers = record { piece = read.piece; are_bytes = read.are_bytes; read = read.read; held = read.held_is; faults = faults; few = omega (arith, few, ap length same) };
      gives = record {
        none = no_frame_by (sight new.held) seen;
        ends = input_ends end offset new.held (offset + length new.held) new.told new.faults good (record { is_end = is; few = omega (arith, few, ap length same); nothing = left_nothing read.piece old.told new.told none read.read (read.ended refl) });
        held = refl;
        told = leaves_good end new.told good;
        faults = counts_good end new.faults good;
      };
    }

bad_ends : (end : LaneEnd) (offset : ℕ) (old new : Moving) (fault : FrameFault) → sight old.held ≡ bad fault → end ≡ end_by offset (bad fault) → new.held ≡ old.held → new.told ≡ old.told → new.faults ≡ old.faults → GivesEnd end offset old new
bad_ends end offset old new BadKind seen is held told faults = rw is (record { none = rw seen tt; ends = sym (bad_end offset old.held BadKind seen); held = held; told = told; faults = faults })
bad_ends end offset old new BadLength seen is held told faults = rw is (record { none = rw seen tt; ends = sym (bad_end offset old.held BadLength seen); held = held; told = told; faults = faults })

pub is_taken : (item : StreamItem) (offset : ℕ) (old new : Moving) → Takes item offset old.held new.held → new.told ≡ old.told → new.faults ≡ old.faults → Gives item offset old new
is_taken (items.Event f) offset old new t told faults = record { cuts = t; told = told; faults = faults }
is_taken (items.End end) offset old new t told faults = bad_ends end offset old new t.fault t.seen t.is_end t.held told faults
is_taken items.Memory offset old new t told faults = record { told = told; faults = faults; held = t }

-- what a read that was refused leaves, and what one at the end of input read
pub failed_leaves : (r : Result ℕ ReadFault) (x : ReadFault) (old new : Option Talk) (before held : List ℕ) → r ≡ Err x → x ≡ Failed → Refuses (Ready r) old new before held → MayCease old new × (held ≡ before)
failed_leaves r x old new before held p q h = subst (λ (y : ReadFault). Refuses (Ready (Err y)) old new before held) q (subst (λ (s : Result ℕ ReadFault). Refuses (Ready s) old new before held) p h)

pub failed_counts : (r : Result ℕ ReadFault) (x : ReadFault) (before now : ℕ) → r ≡ Err x → x ≡ Failed → CountsRead (Ready r) before now → Rose before now
failed_counts r x before now p q h = subst (λ (y : ReadFault). CountsRead (Ready (Err y)) before now) q (subst (λ (s : Result ℕ ReadFault). CountsRead (Ready s) before now) p h)

pub memory_leaves : (r : Result ℕ ReadFault) (x : ReadFault) (old new : Option Talk) (before held : List ℕ) → r ≡ Err x → x ≡ Memory → Refuses (Ready r) old new before held → (new ≡ old) × (held ≡ before)
memory_leaves r x old new before held p q h = subst (λ (y : ReadFault). Refuses (Ready (Err y)) old new before held) q (subst (λ (s : Result ℕ ReadFault). Refuses (Ready s) old new before held) p h)

pub memory_counts : (r : Result ℕ ReadFault) (x : ReadFault) (before now : ℕ) → r ≡ Err x → x ≡ Memory → CountsRead (Ready r) before now → now ≡ before
memory_counts r x before now p q h = subst (λ (y : ReadFault). CountsRead (Ready (Err y)) before now) q (subst (λ (s : Result ℕ ReadFault). CountsRead (Ready s) before now) p h)

pub ended_read : (r : Result ℕ ReadFault) (n : ℕ) (old new : Option Talk) (before held : List ℕ) → r ≡ Ok n → n ≡ 0 → IfGiven (Ready r) (λ (k : ℕ). ReadsPiece k old new before held) → ReadsPiece 0 old new before held
ended_read r n old new before held p q h = subst (λ (k : ℕ). ReadsPiece k old new before held) q (subst (λ (s : Result ℕ ReadFault). IfGiven (Ready s) (λ (k : ℕ). ReadsPiece k old new before held)) p h)

pub ended_counts : (r : Result ℕ ReadFault) (n before now : ℕ) → r ≡ Ok n → CountsRead (Ready r) before now → now ≡ before
ended_counts r n before now p h = subst (λ (s : Result ℕ ReadFault). CountsRead (Ready s) before now) p h

-- what one read does, by its answer
pub grows : (o : Option StreamItem) (offset : ℕ) (old new : Moving) → o ≡ None → Reads (Ready o) offset old new → Grows offset old new
grows o offset old new p h = subst (λ (s : Option StreamItem). Reads (Ready s) offset old new) p h

pub comes : (o : Option StreamItem) (item : StreamItem) (offset : ℕ) (old new : Moving) → o ≡ Some item → Reads (Ready o) offset old new → Comes item offset old new
comes o item offset old new p h = subst (λ (s : Option StreamItem). Reads (Ready s) offset old new) p h

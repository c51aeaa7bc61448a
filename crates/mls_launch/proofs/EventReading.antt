-- The reader of an events file reads exactly the lines of events.
use Rattle.std.proofs.Common.{◌≡◌, ℕ, suc, ◌-◌, ◌+◌, ◌^◌, ◌<◌, ◌≤◌, List, [], ◌∷◌, ◌++◌, length, take, drop, refl, sym, ap, ◌∙◌, subst, inl, inr, arith, append_assoc, length-append, Option, Some, None, Result, Ok, Err}
use Rattle.std.specs.Prelude.{cond, ◌==◌, codes, decimal, true, false, MatchOption}
use Rattle.std.specs.Borrow.{Bor}
use Rattle.std.specs.Str.{bytes_eq}
use Rattle.std.specs.List.{AllByRecursion}
use Rattle.std.specs.Option.{option_and_then}
use Rattle.std.proofs.lemmas.Bool.{cases_Bool}
use Rattle.std.proofs.lemmas.List.{append-nil, take-append-drop}
use Rattle.mls_model.specs.declared.launcher.Event.{Event}
use Rattle.mls_model.specs.declared.launcher.Event.TheVariants.{Tick, Beat, Done, RankBeat}
use Rattle.mls_launch.specs.EventsText.{event_line, IsEvent, events_text, IsRefusedAt}
use Rattle.mls_launch.specs.EventReading.{prepended, events_from, events_of, after_in, behind, tick_in, rank_in, life_in, event_in}
use Rattle.mls_launch.proofs.Picking.{eq_same, eq_true}
use Rattle.mls_text.specs.Fronts.{number_before, seen_rest}
use Rattle.mls_text.proofs.Decimals.{bytes_true, bytes_false}
use Rattle.mls_text.proofs.Fronts.{take_front, first_same, second_same, number_before_is, number_before_found, two_parts}

-- a front
pub after_front : (front rest : List ℕ) → after_in front (front ++ rest) ≡ Some rest
after_front [] rest = refl
after_front (c ∷ front) rest = ap (λ b. cond b (after_in front (front ++ rest)) None) (eq_same c) ∙ after_front front rest

pub after_found : (front bytes rest : List ℕ) → after_in front bytes ≡ Some rest → bytes ≡ front ++ rest
after_found [] bytes rest e = cc
after_found (c ∷ front) [] rest e = cc
after_found (c ∷ front) (b ∷ bytes) rest e = elim (cases_Bool (c == b)) [
  | inl t ↦ ap (λ z. z ∷ bytes) (sym (eq_true c b t)) ∙ ap (λ l. c ∷ l) (after_found front bytes rest (sym (ap (λ d. cond d (after_in front bytes) None) t) ∙ e))
  | inr f ↦ let wrong : None ≡ Some rest = sym (ap (λ d. cond d (after_in front bytes) None) f) ∙ e in cc
]

-- none where the bytes begin otherwise
pub after_none : (front bytes : List ℕ) → (length front ≤ length bytes → take (length front) bytes ≡ front → ⊥) → after_in front bytes ≡ None
after_none front bytes other = go (after_in front bytes) refl
  where
    go : (o : Option (List ℕ)) → after_in front bytes ≡ o → after_in front bytes ≡ None
    go None e = e
    go (Some rest) e =
        let is : bytes ≡ front ++ rest = after_found front bytes rest e in
        absurd (other (omega (arith, ap length is, length-append front rest)) (ap (take (length front)) is ∙ take_front front rest))

pub after_there : (front bytes : List ℕ) → take (length front) bytes ≡ front → after_in front bytes ≡ Some (drop (length front) bytes)
after_there front bytes e =
    ap (after_in front) (sym (take-append-drop (length front) bytes) ∙ ap (λ l. l ++ drop (length front) bytes) e)
    ∙ after_front front (drop (length front) bytes)

-- what is left of bytes whose front was taken away
pub stripped : (front bytes : List ℕ) (r : Option (Bor (List ℕ))) → MatchOption r (bytes_eq (take (length front) bytes) front ≡ false) (λ rest. (bytes_eq (take (length front) bytes) front ≡ true) × (rest.now ≡ drop (length front) bytes) × (length rest.now + length front ≡ length bytes)) → seen_rest r ≡ after_in front bytes
stripped front bytes None other = sym (after_none front bytes (λ long e. bytes_false (take (length front) bytes) front _ refl other e))
stripped front bytes (Some rest) there = ap Some there.1 ∙ sym (after_there front bytes (bytes_true (take (length front) bytes) front _ refl there.0))

-- what stands behind the words
tick_in_is : (now : ℕ) (rest : List ℕ) → now < 2 ^ 32 → tick_in (decimal now ++ 10 ∷ rest) ≡ Some (Tick now, rest)
unfolding tick_in
tick_in_is now rest small =
    ap (option_and_then (λ (x : ℕ × List ℕ). Some (Tick x.0, x.1))) (number_before_is now 10 rest small refl)

rank_in_is : (rank now : ℕ) (rest : List ℕ) → rank < 2 ^ 32 → now < 2 ^ 32 → rank_in (decimal rank ++ 32 ∷ (decimal now ++ 10 ∷ rest)) ≡ Some (RankBeat rank now, rest)
unfolding rank_in
rank_in_is rank now rest a b =
    ap (option_and_then (λ (x : ℕ × List ℕ). option_and_then (λ (y : ℕ × List ℕ). Some (RankBeat x.0 y.0, y.1)) (number_before 10 x.1))) (number_before_is rank 32 (decimal now ++ 10 ∷ rest) a refl)
    ∙ ap (option_and_then (λ (y : ℕ × List ℕ). Some (RankBeat rank y.0, y.1))) (number_before_is now 10 rest b refl)

life_in_is : (event : ℕ → ℕ → ℕ → Event) (group life now : ℕ) (rest : List ℕ) → group < 2 ^ 32 → life < 2 ^ 32 → now < 2 ^ 32 → life_in event (decimal group ++ 32 ∷ (decimal life ++ 32 ∷ (decimal now ++ 10 ∷ rest))) ≡ Some (event group life now, rest)
unfolding life_in
life_in_is event group life now rest a b c =
    ap (option_and_then (λ (x : ℕ × List ℕ). option_and_then (λ (y : ℕ × List ℕ). option_and_then (λ (z : ℕ × List ℕ). Some (event x.0 y.0 z.0, z.1)) (number_before 10 y.1)) (number_before 32 x.1))) (number_before_is group 32 (decimal life ++ 32 ∷ (decimal now ++ 10 ∷ rest)) a refl)
    ∙ ap (option_and_then (λ (y : ℕ × List ℕ). option_and_then (λ (z : ℕ × List ℕ). Some (event group y.0 z.0, z.1)) (number_before 10 y.1))) (number_before_is life 32 (decimal now ++ 10 ∷ rest) b refl)
    ∙ ap (option_and_then (λ (z : ℕ × List ℕ). Some (event group life z.0, z.1))) (number_before_is now 10 rest c refl)

three_parts : (a b c rest : List ℕ) → (a ++ 32 ∷ (b ++ 32 ∷ (c ++ 10 ∷ []))) ++ rest ≡ a ++ 32 ∷ (b ++ 32 ∷ (c ++ 10 ∷ rest))
three_parts a b c rest = append_assoc a (32 ∷ (b ++ 32 ∷ (c ++ 10 ∷ []))) rest ∙ ap (λ l. a ++ 32 ∷ l) (two_parts b c rest)

-- the line of an event is read
pub event_in_is : (e : Event) (rest : List ℕ) → IsEvent e → event_in (event_line e ++ rest) ≡ Some (e, rest)
unfolding event_in event_line
event_in_is (Tick now) rest h = ap tick_in (append_assoc (decimal now) (10 ∷ []) rest) ∙ tick_in_is now rest h
event_in_is (Beat group life now) rest h =
    ap (life_in (λ g l n. Beat g l n)) (three_parts (decimal group) (decimal life) (decimal now) rest) ∙ life_in_is (λ g l n. Beat g l n) group life now rest h.0 h.1 h.2
event_in_is (Done group life now) rest h =
    ap (life_in (λ g l n. Done g l n)) (three_parts (decimal group) (decimal life) (decimal now) rest) ∙ life_in_is (λ g l n. Done g l n) group life now rest h.0 h.1 h.2
event_in_is (RankBeat rank now) rest h = ap rank_in (two_parts (decimal rank) (decimal now) rest) ∙ rank_in_is rank now rest h.0 h.1

-- and nothing else is
tick_in_found : (bytes : List ℕ) (e : Event) (rest : List ℕ) → tick_in bytes ≡ Some (e, rest) → (codes "tick " ++ bytes ≡ event_line e ++ rest) × IsEvent e
unfolding tick_in event_line
tick_in_found bytes e rest h = go (number_before 10 bytes) refl h
  where
    go : (o : Option (ℕ × List ℕ)) → number_before 10 bytes ≡ o → option_and_then {U = Event × List ℕ} (λ (x : ℕ × List ℕ). Some (Tick x.0, x.1)) o ≡ Some (e, rest) → (codes "tick " ++ bytes ≡ event_line e ++ rest) × IsEvent e
    go None k h = cc
    go (Some (now, l)) k h =
        let same0 = first_same (Tick now) e l rest h in
        let same1 = second_same (Tick now) e l rest h in
        let found = number_before_found 10 bytes now l k in
        let P : Event → Type 0 = λ x. (codes "tick " ++ bytes ≡ event_line x ++ rest) × IsEvent x in
        subst P same0 (
          ap (λ q. codes "tick " ++ q) (found.0 ∙ ap (λ q. decimal now ++ 10 ∷ q) same1 ∙ sym (append_assoc (decimal now) (10 ∷ []) rest)),
          found.1,
        )

rank_in_found : (bytes : List ℕ) (e : Event) (rest : List ℕ) → rank_in bytes ≡ Some (e, rest) → (codes "rank " ++ bytes ≡ event_line e ++ rest) × IsEvent e
unfolding rank_in event_line
rank_in_found bytes e rest h = go (number_before 32 bytes) refl h
  where
    there : (rank : ℕ) (l : List ℕ) → number_before 32 bytes ≡ Some (rank, l) → (o : Option (ℕ × List ℕ)) → number_before 10 l ≡ o → option_and_then {U = Event × List ℕ} (λ (y : ℕ × List ℕ). Some (RankBeat rank y.0, y.1)) o ≡ Some (e, rest) → (codes "rank " ++ bytes ≡ event_line e ++ rest) × IsEvent e
    there rank l j None k h = cc
    there rank l j (Some (now, m)) k h =
        let same0 = first_same (RankBeat rank now) e m rest h in
        let same1 = second_same (RankBeat rank now) e m rest h in
        let first = number_before_found 32 bytes rank l j in
        let second = number_before_found 10 l now m k in
        let P : Event → Type 0 = λ x. (codes "rank " ++ bytes ≡ event_line x ++ rest) × IsEvent x in
        subst P same0 (
          ap (λ q. codes "rank " ++ q) (first.0 ∙ ap (λ q. decimal rank ++ 32 ∷ q) (second.0 ∙ ap (λ q. decimal now ++ 10 ∷ q) same1) ∙ sym (two_parts (decimal rank) (decimal now) rest)),
          (first.1, second.1),
        )

    go : (o : Option (ℕ × List ℕ)) → number_before 32 bytes ≡ o → option_and_then {U = Event × List ℕ} (λ (x : ℕ × List ℕ). option_and_then {U = Event × List ℕ} (λ (y : ℕ × List ℕ). Some (RankBeat x.0 y.0, y.1)) (number_before 10 x.1)) o ≡ Some (e, rest) → (codes "rank " ++ bytes ≡ event_line e ++ rest) × IsEvent e
    go None k h = cc
    go (Some (rank, l)) k h = there rank l k (number_before 10 l) refl h

-- three numbers, whatever event they make
record Three (event : ℕ → ℕ → ℕ → Event) (bytes : List ℕ) (e : Event) (rest : List ℕ) : Type 0 where
  group : ℕ
  life : ℕ
  now : ℕ
  event_is : event group life now ≡ e
  bytes_are : bytes ≡ decimal group ++ 32 ∷ (decimal life ++ 32 ∷ (decimal now ++ 10 ∷ rest))
  group_fits : group < 2 ^ 32
  life_fits : life < 2 ^ 32
  now_fits : now < 2 ^ 32

life_in_found : (event : ℕ → ℕ → ℕ → Event) (bytes : List ℕ) (e : Event) (rest : List ℕ) → life_in event bytes ≡ Some (e, rest) → Three event bytes e rest
unfolding life_in
life_in_found event bytes e rest h = go (number_before 32 bytes) refl h
  where
    last : (group life : ℕ) (l m : List ℕ) → number_before 32 bytes ≡ Some (group, l) → number_before 32 l ≡ Some (life, m) → (o : Option (ℕ × List ℕ)) → number_before 10 m ≡ o → option_and_then {U = Event × List ℕ} (λ (z : ℕ × List ℕ). Some (event group life z.0, z.1)) o ≡ Some (e, rest) → Three event bytes e rest
    last group life l m i j None k h = cc
    last group life l m i j (Some (now, n)) k h =
        let same0 = first_same (event group life now) e n rest h in
        let same1 = second_same (event group life now) e n rest h in
        let first = number_before_found 32 bytes group l i in
        let second = number_before_found 32 l life m j in
        let third = number_before_found 10 m now n k in
        record {
          group = group;
          life = life;
          now = now;
          event_is = same0;
          bytes_are = first.0 ∙ ap (λ q. decimal group ++ 32 ∷ q) (second.0 ∙ ap (λ q. decimal life ++ 32 ∷ q) (third.0 ∙ ap (λ q. decimal now ++ 10 ∷ q) same1));
          group_fits = first.1;
          life_fits = second.1;
          now_fits = third.1;
        }

    there : (group : ℕ) (l : List ℕ) → number_before 32 bytes ≡ Some (group, l) → (o : Option (ℕ × List ℕ)) → number_before 32 l ≡ o → option_and_then {U = Event × List ℕ} (λ (y : ℕ × List ℕ). option_and_then {U = Event × List ℕ} (λ (z : ℕ × List ℕ). Some (event group y.0 z.0, z.1)) (number_before 10 y.1)) o ≡ Some (e, rest) → Three event bytes e rest
    there group l j None k h = cc
    there group l j (Some (life, m)) k h = last group life l m j k (number_before 10 m) refl h

    go : (o : Option (ℕ × List ℕ)) → number_before 32 bytes ≡ o → option_and_then {U = Event × List ℕ} (λ (x : ℕ × List ℕ). option_and_then {U = Event × List ℕ} (λ (y : ℕ × List ℕ). option_and_then {U = Event × List ℕ} (λ (z : ℕ × List ℕ). Some (event x.0 y.0 z.0, z.1)) (number_before 10 y.1)) (number_before 32 x.1)) o ≡ Some (e, rest) → Three event bytes e rest
    go None k h = cc
    go (Some (group, l)) k h = there group l k (number_before 32 l) refl h

beat_found : (bytes : List ℕ) (e : Event) (rest : List ℕ) → life_in (λ g l n. Beat g l n) bytes ≡ Some (e, rest) → (codes "beat " ++ bytes ≡ event_line e ++ rest) × IsEvent e
unfolding event_line
beat_found bytes e rest h =
    let t = life_in_found (λ g l n. Beat g l n) bytes e rest h in
    let P : Event → Type 0 = λ x. (codes "beat " ++ bytes ≡ event_line x ++ rest) × IsEvent x in
    subst P t.event_is (
      ap (λ q. codes "beat " ++ q) (t.bytes_are ∙ sym (three_parts (decimal t.group) (decimal t.life) (decimal t.now) rest)),
      (t.group_fits, t.life_fits, t.now_fits),
    )

done_found : (bytes : List ℕ) (e : Event) (rest : List ℕ) → life_in (λ g l n. Done g l n) bytes ≡ Some (e, rest) → (codes "done " ++ bytes ≡ event_line e ++ rest) × IsEvent e
unfolding event_line
done_found bytes e rest h =
    let t = life_in_found (λ g l n. Done g l n) bytes e rest h in
    let P : Event → Type 0 = λ x. (codes "done " ++ bytes ≡ event_line x ++ rest) × IsEvent x in
    subst P t.event_is (
      ap (λ q. codes "done " ++ q) (t.bytes_are ∙ sym (three_parts (decimal t.group) (decimal t.life) (decimal t.now) rest)),
      (t.group_fits, t.life_fits, t.now_fits),
    )

found_behind : (bytes word l : List ℕ) (e : Event) (rest : List ℕ) → after_in word bytes ≡ Some l → (word ++ l ≡ event_line e ++ rest) × IsEvent e → (bytes ≡ event_line e ++ rest) × IsEvent e
found_behind bytes word l e rest k found = (after_found word bytes l k ∙ found.0, found.1)

-- by the word that the bytes begin with
one_word : (bytes word : List ℕ) (there : List ℕ → Option (Event × List ℕ)) (other : Option (Event × List ℕ)) (e : Event) (rest : List ℕ) → ((l : List ℕ) → there l ≡ Some (e, rest) → (word ++ l ≡ event_line e ++ rest) × IsEvent e) → (other ≡ Some (e, rest) → (bytes ≡ event_line e ++ rest) × IsEvent e) → (o : Option (List ℕ)) → after_in word bytes ≡ o → behind there other o ≡ Some (e, rest) → (bytes ≡ event_line e ++ rest) × IsEvent e
one_word bytes word there other e rest read else_read None k h = else_read h
one_word bytes word there other e rest read else_read (Some l) k h = found_behind bytes word l e rest k (read l h)

pub event_in_found : (bytes : List ℕ) (e : Event) (rest : List ℕ) → event_in bytes ≡ Some (e, rest) → (bytes ≡ event_line e ++ rest) × IsEvent e
unfolding event_in
event_in_found bytes e rest h =
    one_word bytes (codes "tick ") tick_in _ e rest (λ l k. tick_in_found l e rest k)
    (λ k. one_word bytes (codes "beat ") (life_in (λ g l n. Beat g l n)) _ e rest (λ l j. beat_found l e rest j)
    (λ j. one_word bytes (codes "done ") (life_in (λ g l n. Done g l n)) _ e rest (λ l i. done_found l e rest i)
    (λ i. one_word bytes (codes "rank ") rank_in None e rest (λ l q. rank_in_found l e rest q) (λ q. cc) (after_in (codes "rank ") bytes) refl i)
    (after_in (codes "done ") bytes) refl j)
    (after_in (codes "beat ") bytes) refl k)
    (after_in (codes "tick ") bytes) refl h

-- The events so far are read, and the rest is left.
pub record IsRead (bytes : List ℕ) (events : List Event) (rest : List ℕ) : Type 0 where
  pub is_text : bytes ≡ events_text events ++ rest
  pub events_fit : AllByRecursion IsEvent events
  pub few : (length events + length rest) ≤ length bytes

pub none_read : (bytes : List ℕ) → IsRead bytes [] bytes
unfolding events_text
none_read bytes = record { is_text = refl; events_fit = tt; few = omega arith }

line_some : (e : Event) → 0 < length (event_line e)
unfolding event_line
line_some (Tick now) = omega arith
line_some (Beat group life now) = omega arith
line_some (Done group life now) = omega arith
line_some (RankBeat rank now) = omega arith

text_push : (events : List Event) (e : Event) → events_text (events ++ e ∷ []) ≡ events_text events ++ event_line e
unfolding events_text
text_push [] e = append-nil (event_line e)
text_push (x ∷ events) e = ap (λ l. event_line x ++ l) (text_push events e) ∙ sym (append_assoc (event_line x) (events_text events) (event_line e))

fit_push : (events : List Event) (e : Event) → AllByRecursion IsEvent events → IsEvent e → AllByRecursion IsEvent (events ++ e ∷ [])
fit_push [] e all h = (h, tt)
fit_push (x ∷ events) e all h = (all.0, fit_push events e all.1 h)

pub one_read : (bytes : List ℕ) (events : List Event) (rest : List ℕ) (e : Event) (after : List ℕ) → IsRead bytes events rest → event_in rest ≡ Some (e, after) → IsRead bytes (events ++ e ∷ []) after
one_read bytes events rest e after r h =
    let found = event_in_found rest e after h in
    record {
      is_text = r.is_text ∙ ap (λ l. events_text events ++ l) found.0 ∙ sym (append_assoc (events_text events) (event_line e) after) ∙ ap (λ l. l ++ after) (sym (text_push events e));
      events_fit = fit_push events e r.events_fit found.1;
      few = omega (arith, r.few, ap length found.0, length-append (event_line e) after, line_some e, length-append events (e ∷ []));
    }

-- a line makes the rest shorter
pub shorter : (rest : List ℕ) (e : Event) (after : List ℕ) → event_in rest ≡ Some (e, after) → length after < length rest
shorter rest e after h =
    let found = event_in_found rest e after h in
    omega (arith, ap length found.0, length-append (event_line e) after, line_some e)

pub all_read : (bytes : List ℕ) (events : List Event) (rest : List ℕ) → IsRead bytes events rest → length rest ≡ 0 → bytes ≡ events_text events
all_read bytes events [] r e = r.is_text ∙ append-nil (events_text events)
all_read bytes events (b ∷ rest) r e = absurd (omega arith)

pub refused : (bytes : List ℕ) (events : List Event) (rest : List ℕ) (line : ℕ) → IsRead bytes events rest → 0 < length rest → event_in rest ≡ None → line ≡ length events + 1 → IsRefusedAt bytes line
refused bytes events rest line r some none is = record {
  before = events;
  rest = rest;
  is_text = r.is_text;
  line_is = is;
  some = some;
  events_fit = r.events_fit;
  no_event = λ e fits after same.
      let read : event_in rest ≡ Some (e, after) = ap event_in same ∙ event_in_is e after fits in
      let wrong : None ≡ Some (e, after) = sym none ∙ read in
      cc;
}

pub read_begins : (bytes : List ℕ) (events : List Event) → events ≡ [] → IsRead bytes events bytes
read_begins bytes events e = subst (λ l. IsRead bytes l bytes) (sym e) (none_read bytes)

pub read_goes_on : (bytes : List ℕ) (events events' : List Event) (rest : List ℕ) (e : Event) (after : List ℕ) → IsRead bytes events rest → event_in rest ≡ Some (e, after) → events' ≡ events ++ e ∷ [] → IsRead bytes events' after
read_goes_on bytes events events' rest e after r h pushed = subst (λ l. IsRead bytes l after) (sym pushed) (one_read bytes events rest e after r h)

-- ---- the events of the bytes, as a function

from_more : (most line : ℕ) (bytes : List ℕ) → 0 < length bytes → events_from (suc most) line bytes ≡ elim (event_in bytes) [ None ↦ Err line | Some x ↦ prepended (x.0 ∷ []) (events_from most (line + 1) x.1) ]
unfolding events_from
from_more most line [] some = absurd (omega (arith, some))
from_more most line (b ∷ bytes) some = refl

prepended_twice : (e : Event) (events : List Event) (r : Result (List Event) ℕ) → prepended (e ∷ []) (prepended events r) ≡ prepended (e ∷ events) r
prepended_twice e events (Ok later) = refl
prepended_twice e events (Err line) = refl

prepended_none : (r : Result (List Event) ℕ) → prepended [] r ≡ r
prepended_none (Ok later) = refl
prepended_none (Err line) = refl

-- lines of events are read, and then the rest
text_goes_on : (events : List Event) (rest : List ℕ) (most line : ℕ) → AllByRecursion IsEvent events → events_from (length events + most) line (events_text events ++ rest) ≡ prepended events (events_from most (line + length events) rest)
unfolding events_text
text_goes_on [] rest most line fit =
    let none : length {A = Event} [] + most ≡ most = omega arith in
    let first : line ≡ line + length {A = Event} [] = omega arith in
    ap (λ m. events_from m line rest) none
    ∙ ap (λ l. events_from most l rest) first
    ∙ sym (prepended_none (events_from most (line + length {A = Event} []) rest))
text_goes_on (e ∷ events) rest most line fit =
    let tail : List ℕ = events_text events ++ rest in
    let bytes : List ℕ = event_line e ++ tail in
    let some : 0 < length bytes = omega (arith, length-append (event_line e) tail, line_some e) in
    let assoc : (event_line e ++ events_text events) ++ rest ≡ bytes = append_assoc (event_line e) (events_text events) rest in
    let lines : length (e ∷ events) + most ≡ suc (length events + most) = omega arith in
    let next : line + 1 + length events ≡ line + length (e ∷ events) = omega arith in
    ap (λ m. events_from m line ((event_line e ++ events_text events) ++ rest)) lines
    ∙ ap (events_from (suc (length events + most)) line) assoc
    ∙ from_more (length events + most) line bytes some
    ∙ ap (λ (o : Option (Event × List ℕ)). elim o [ None ↦ Err line | Some x ↦ prepended (x.0 ∷ []) (events_from (length events + most) (line + 1) x.1) ]) (event_in_is e tail fit.0)
    ∙ ap (prepended (e ∷ [])) (text_goes_on events rest most (line + 1) fit.1)
    ∙ prepended_twice e events (events_from most (line + 1 + length events) rest)
    ∙ ap (λ l. prepended (e ∷ events) (events_from most l rest)) next

nothing_left : (most line : ℕ) → events_from most line [] ≡ Ok []
unfolding events_from
nothing_left most line = refl

pub all_events : (bytes : List ℕ) (events : List Event) (rest : List ℕ) → IsRead bytes events rest → length rest ≡ 0 → events_of bytes ≡ Ok events
unfolding events_of
all_events bytes events [] r none =
    let most : ℕ = length bytes - length events in
    let enough : length bytes ≡ length events + most = omega (arith, r.few) in
    ap (λ m. events_from m 1 bytes) enough
    ∙ ap (events_from (length events + most) 1) r.is_text
    ∙ text_goes_on events [] most 1 r.events_fit
    ∙ ap (prepended events) (nothing_left most (1 + length events))
    ∙ ap Ok (append-nil events)
all_events bytes events (b ∷ rest) r none = absurd (omega (arith, none))

pub no_event_at : (bytes : List ℕ) (events : List Event) (rest : List ℕ) (line : ℕ) → IsRead bytes events rest → 0 < length rest → event_in rest ≡ None → line ≡ length events + 1 → events_of bytes ≡ Err line
unfolding events_of
no_event_at bytes events rest line r some none is =
    let most : ℕ = length bytes - length events - 1 in
    let enough : length bytes ≡ length events + suc most = omega (arith, r.few, some) in
    ap (λ m. events_from m 1 bytes) enough
    ∙ ap (events_from (length events + suc most) 1) r.is_text
    ∙ text_goes_on events rest (suc most) 1 r.events_fit
    ∙ ap (prepended events) (from_more most (1 + length events) rest some ∙ ap (λ (o : Option (Event × List ℕ)). elim o [ None ↦ Err (1 + length events) | Some x ↦ prepended (x.0 ∷ []) (events_from most (1 + length events + 1) x.1) ]) none)
    ∙ ap Err (omega (arith, is))

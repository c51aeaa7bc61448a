use Rattle.std.proofs.Common.{◌≡◌, ◌<◌, ℕ, List, true, false, length, take, Some, is_some, string_bytes, bytes_eq, sym, ◌∙◌, ap, arith}
use Rattle.std.proofs.lemmas.Map.Text.{hash_map_updates_text}
use Rattle.std.specs.List.{list_any}
use Rattle.std.specs.Map.{update}
use Rattle.indexmap.specs.IndexMap.{get_by_text}
use Rattle.mls_study.specs.Names.{is_called}
use Rattle.mls_study.specs.Parameters.{seen, all_seen}
use Rattle.mls_study.specs.StudyFile.{refuse}
use Rattle.mls_study.specs.declared.fault.StudyFault.TheVariants.{Duplicate}
use Rattle.mls_study.proofs.Placing.{is_some_position, placed_more, seen_take, seen_len, duplicate_here, duplicate_later}
use Rattle.mls_study.proofs.parameter_places.places.Goals as goal

pub returns-then-contains_key-clause-exact : goal.returns-then-contains_key-clause-exact
returns-then-contains_key-clause-exact c =
    let xs = c.args.parameters.now in
    let i = c.loop-place.place in
    let x = c.index-parameters-place.result in
    let called : list_any (is_called (string_bytes x.name)) (all_seen (take i xs)) ≡ true =
    sym (is_some_position (is_called (string_bytes x.name)) (all_seen (take i xs)))
    ∙ ap is_some (sym (c.loop-place.invariant.found (string_bytes x.name)))
    ∙ ap (λ (q : List ℕ). is_some (get_by_text c.loop-place.places q)) (sym c.as_str-name.ensures.value)
    ∙ sym c.contains_key.ensures ∙ c.if-contains_key.true in
    λ _. ap (refuse (λ p. Duplicate p)) (sym c.loop-place.invariant.same ∙ duplicate_here xs i x (omega arith) c.index-parameters-place.is called)

pub loop-place-preserved : goal.loop-place-preserved
loop-place-preserved c =
    let xs = c.args.parameters.now in
    let i = c.loop-place.place in
    let x = c.index-parameters-place.result in
    let within : i < length xs = omega arith in
    let is = c.index-parameters-place.is in
    let key : string_bytes c.in_ok-from_str.field-0 ≡ string_bytes x.name = c.in_ok-from_str.ensures.ok ∙ c.as_str-name.ensures.value in
    let absent : is_some (get_by_text c.loop-place.places (string_bytes x.name)) ≡ false =
    ap (λ (q : List ℕ). is_some (get_by_text c.loop-place.places q)) (sym c.as_str-name.ensures.value)
    ∙ sym c.contains_key.ensures ∙ c.if-contains_key.false in
    let called : list_any (is_called (string_bytes x.name)) (all_seen (take i xs)) ≡ false =
    sym (is_some_position (is_called (string_bytes x.name)) (all_seen (take i xs)))
    ∙ ap is_some (sym (c.loop-place.invariant.found (string_bytes x.name))) ∙ absent in
    let updated = λ (q : List ℕ). hash_map_updates_text (string_bytes c.in_ok-from_str.field-0) c.loop-place.places c.insert.new.self (Some i) c.in_ok-insert.ensures.updates q
    ∙ ap (λ (k : List ℕ). update bytes_eq (get_by_text c.loop-place.places) k (Some i) q) key in
    record {
      found = rw (seen_take xs i x within is)
          (placed_more (get_by_text c.loop-place.places) (get_by_text c.insert.new.self) (all_seen (take i xs)) (seen x) i (seen_len xs i x within is) c.loop-place.invariant.found absent updated);
      same = duplicate_later xs i x within is called ∙ c.loop-place.invariant.same;
    }

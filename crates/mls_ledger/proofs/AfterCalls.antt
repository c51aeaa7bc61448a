-- What the calls leave, said of the fields (m, counts) and of the set that they are seen as (v).
use Rattle.std.proofs.Common.{◌≡◌, ℕ, ◌+◌, ◌*◌, ◌/◌, ◌%◌, ◌^◌, ◌<◌, ◌≤◌, false, ◌&&◌, ◌||◌, cond, List, length, get_or, set, replicate, ap, sym, ◌∙◌, subst}
use Rattle.std.specs.Prelude.{◌==◌, nat_lt}
use Rattle.std.specs.Int.RustNames.{bit_or}
use lib.Bits.{bit_and}
use Rattle.std.proofs.lemmas.Bool.{and_left, and_right, le-ltb}
use Rattle.std.proofs.lemmas.List.{get_or_default}
use Rattle.std.proofs.lemmas.Nat.Bits.{shr_and_one}
use Rattle.mls_ckpt.specs.States.{row_len}
use Rattle.mls_ledger.specs.MarkSets.{MarkSet, is_marked, marked, KeepsMarks}
use Rattle.mls_ledger.proofs.Bits.{place_in, unmarked_outside, marked_inside, with_mark, with_mark_at, marked_more, marked_room, keeps_more, keeps_zeros, zeros_unmarked, zeros_count}

-- the set after the write of a bit
abbrev pub written : MarkSet → ℕ → ℕ → ℕ → MarkSet
written m group place byte = record { groups = m.groups; planes = m.planes; bytes = set m.bytes place (bit_or byte (1 * 2 ^ (group % 8) % 2 ^ 8)) }

-- what is known before a key is put in
pub record IsReady (m v : MarkSet) (counts : List ℕ) (group plane place byte count : ℕ) : Type 0 where
  pub seen : m ≡ v
  pub kept : KeepsMarks m counts
  pub group_in : group < v.groups
  pub plane_in : plane < v.planes
  pub absent : is_marked v group plane ≡ false
  pub at : place ≡ plane * row_len v.groups + group / 8
  pub byte_is : byte ≡ get_or m.bytes place byte
  pub count_is : count ≡ get_or counts plane count

pub record IsPlain (m : MarkSet) (counts : List ℕ) (group plane place byte count : ℕ) : Type 0 where
  pub kept : KeepsMarks m counts
  pub group_in : group < m.groups
  pub plane_in : plane < m.planes
  pub absent : is_marked m group plane ≡ false
  pub mark : written m group place byte ≡ with_mark m group plane
  pub whole : count ≡ get_or counts plane 0
  pub as_marked : count ≡ marked m plane

same_mark : (m : MarkSet) (group plane place byte : ℕ) → place ≡ plane * row_len m.groups + group / 8 → byte ≡ get_or m.bytes place 0 → written m group place byte ≡ with_mark m group plane
same_mark m group plane place byte at is =
    ap (λ b. written m group place b) is ∙ ap (λ n. written m group n (get_or m.bytes n 0)) at

plain : (m v : MarkSet) (counts : List ℕ) (group plane place byte count : ℕ) → IsReady m v counts group plane place byte count → IsPlain m counts group plane place byte count
plain m v counts group plane place byte count r =
    let group_in : group < m.groups = subst (λ (w : MarkSet). group < w.groups) (sym r.seen) r.group_in in
    let plane_in : plane < m.planes = subst (λ (w : MarkSet). plane < w.planes) (sym r.seen) r.plane_in in
    let absent : is_marked m group plane ≡ false = subst (λ (w : MarkSet). is_marked w group plane ≡ false) (sym r.seen) r.absent in
    let at : place ≡ plane * row_len m.groups + group / 8 = subst (λ (w : MarkSet). place ≡ plane * row_len w.groups + group / 8) (sym r.seen) r.at in
    let within : plane * row_len m.groups + group / 8 < m.planes * row_len m.groups = place_in m.groups m.planes group plane group_in plane_in in
    let byte_in : place < length m.bytes = subst (λ (n : ℕ). place < n) (sym r.kept.size) (subst (λ (n : ℕ). n < m.planes * row_len m.groups) (sym at) within) in
    let count_in : plane < length counts = subst (λ (n : ℕ). plane < n) (sym r.kept.one_each) plane_in in
    let count_is : count ≡ get_or counts plane 0 = r.count_is ∙ get_or_default counts plane count 0 count_in in
    record {
      kept = r.kept;
      group_in = group_in;
      plane_in = plane_in;
      absent = absent;
      mark = same_mark m group plane place byte at (r.byte_is ∙ get_or_default m.bytes place byte 0 byte_in);
      whole = count_is;
      as_marked = count_is ∙ r.kept.counted plane plane_in;
    }

pub set_keeps : (m v : MarkSet) (counts : List ℕ) (group plane place byte count : ℕ) → IsReady m v counts group plane place byte count → KeepsMarks (written m group place byte) (set counts plane (count + 1))
set_keeps m v counts group plane place byte count r =
    let p = plain m v counts group plane place byte count r in
    subst (λ (w : MarkSet). KeepsMarks w (set counts plane (count + 1))) (sym p.mark)
    (subst (λ (n : ℕ). KeepsMarks (with_mark m group plane) (set counts plane (n + 1))) (sym p.whole) (keeps_more m counts group plane p.group_in p.plane_in p.kept p.absent))

pub set_marks : (m v : MarkSet) (counts : List ℕ) (group plane place byte count : ℕ) → IsReady m v counts group plane place byte count
    → (g q : ℕ) → is_marked (written m group place byte) g q ≡ (is_marked v g q || ((g == group) && (q == plane)))
set_marks m v counts group plane place byte count r g q =
    let p = plain m v counts group plane place byte count r in
    ap (λ w. is_marked w g q) p.mark
    ∙ (with_mark_at m group plane p.group_in p.plane_in p.kept.size g q
    ∙ ap (λ w. is_marked w g q || ((g == group) && (q == plane))) r.seen)

pub set_counts : (m v : MarkSet) (counts : List ℕ) (group plane place byte count : ℕ) → IsReady m v counts group plane place byte count
    → (q : ℕ) → marked (written m group place byte) q ≡ cond (q == plane) (marked v q + 1) (marked v q)
set_counts m v counts group plane place byte count r q =
    let p = plain m v counts group plane place byte count r in
    ap (λ w. marked w q) p.mark
    ∙ (marked_more m group plane p.group_in p.plane_in p.kept.size p.absent q
    ∙ ap (λ w. cond (q == plane) (marked w q + 1) (marked w q)) r.seen)

pub set_room : (m v : MarkSet) (counts : List ℕ) (group plane place byte count : ℕ) → IsReady m v counts group plane place byte count → marked v plane < v.groups
set_room m v counts group plane place byte count r =
    let p = plain m v counts group plane place byte count r in
    subst (λ (w : MarkSet). marked w plane < w.groups) r.seen (marked_room m group plane p.group_in p.plane_in p.kept.size p.absent)

pub set_fits : (m v : MarkSet) (counts : List ℕ) (group plane place byte count : ℕ) → IsReady m v counts group plane place byte count → count < v.groups
set_fits m v counts group plane place byte count r =
    let p = plain m v counts group plane place byte count r in
    subst (λ (n : ℕ). n < v.groups) (sym (p.as_marked ∙ ap (λ w. marked w plane) r.seen)) (set_room m v counts group plane place byte count r)

pub seen_mark : (m v : MarkSet) (group plane place byte : ℕ) → m ≡ v → group < m.groups → plane < m.planes → place ≡ plane * row_len v.groups + group / 8 → byte ≡ get_or m.bytes place byte → place < length v.bytes
    → (bit_and (byte / 2 ^ (group % 8)) 1 == 1) ≡ is_marked v group plane
seen_mark m v group plane place byte seen group_in plane_in at byte_is within =
    let at' : place ≡ plane * row_len m.groups + group / 8 = subst (λ (w : MarkSet). place ≡ plane * row_len w.groups + group / 8) (sym seen) at in
    let in' : place < length m.bytes = subst (λ (w : MarkSet). place < length w.bytes) (sym seen) within in
    ap (λ b. b == 1) (shr_and_one byte (group % 8))
    ∙ (ap (λ b. (b / 2 ^ (group % 8) % 2) == 1) (byte_is ∙ (get_or_default m.bytes place byte 0 in' ∙ ap (λ n. get_or m.bytes n 0) at'))
    ∙ (sym (marked_inside m group plane group_in plane_in)
    ∙ ap (λ w. is_marked w group plane) seen))

pub none_past_groups : (m v : MarkSet) (group plane : ℕ) → m ≡ v → m.groups ≤ group → false ≡ is_marked v group plane
none_past_groups m v group plane seen past =
    sym (unmarked_outside m group plane (and_left (nat_lt group m.groups) (nat_lt plane m.planes) (le-ltb group m.groups past))) ∙ ap (λ w. is_marked w group plane) seen

pub none_past_planes : (m v : MarkSet) (group plane : ℕ) → m ≡ v → m.planes ≤ plane → false ≡ is_marked v group plane
none_past_planes m v group plane seen past =
    sym (unmarked_outside m group plane (and_right (nat_lt group m.groups) (nat_lt plane m.planes) (le-ltb plane m.planes past))) ∙ ap (λ w. is_marked w group plane) seen

pub zeros_keep : (groups planes : ℕ) (bytes counts : List ℕ) → bytes ≡ replicate (planes * row_len groups) 0 → counts ≡ replicate planes 0 → KeepsMarks (record { groups = groups; planes = planes; bytes = bytes }) counts
zeros_keep groups planes bytes counts b c =
    subst (λ (xs : List ℕ). KeepsMarks (record { groups = groups; planes = planes; bytes = xs }) counts) (sym b)
    (subst (λ (xs : List ℕ). KeepsMarks (record { groups = groups; planes = planes; bytes = replicate (planes * row_len groups) 0 }) xs) (sym c) (keeps_zeros groups planes))

pub zeros_empty : (groups planes n : ℕ) (bytes : List ℕ) → bytes ≡ replicate n 0 → (group plane : ℕ) → is_marked (record { groups = groups; planes = planes; bytes = bytes }) group plane ≡ false
zeros_empty groups planes n bytes b group plane =
    subst (λ (xs : List ℕ). is_marked (record { groups = groups; planes = planes; bytes = xs }) group plane ≡ false) (sym b) (zeros_unmarked groups planes n group plane)

pub zeros_none : (groups planes n : ℕ) (bytes : List ℕ) → bytes ≡ replicate n 0 → (plane : ℕ) → marked (record { groups = groups; planes = planes; bytes = bytes }) plane ≡ 0
zeros_none groups planes n bytes b plane =
    subst (λ (xs : List ℕ). marked (record { groups = groups; planes = planes; bytes = xs }) plane ≡ 0) (sym b) (zeros_count groups planes n plane)

-- all bytes and counts set to 0
pub cleared_keep : (groups planes bytes_len counts_len : ℕ) (old_bytes old_counts bytes counts : List ℕ) → KeepsMarks (record { groups = groups; planes = planes; bytes = old_bytes }) old_counts
    → bytes_len ≡ length old_bytes → counts_len ≡ length old_counts → bytes ≡ replicate bytes_len 0 → counts ≡ replicate counts_len 0 → KeepsMarks (record { groups = groups; planes = planes; bytes = bytes }) counts
cleared_keep groups planes bytes_len counts_len old_bytes old_counts bytes counts kept b_len c_len b c =
    zeros_keep groups planes bytes counts (b ∙ ap (λ (n : ℕ). replicate n 0) (b_len ∙ kept.size)) (c ∙ ap (λ (n : ℕ). replicate n 0) (c_len ∙ kept.one_each))

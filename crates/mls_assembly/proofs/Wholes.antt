-- What a loop over the clients found.
use Rattle.std.proofs.Common.{◌≡◌, ℕ, ◌<◌, true, false, not, ◌||◌, Option, ap, sym, ◌∙◌, subst, arith}
use Rattle.std.specs.Prelude.{is_some}
use Rattle.std.proofs.lemmas.Bool.{lt-ltb, both_ways, false_from_ne_true}
use Rattle.mls_model.specs.declared.blocks.Span.{Span}
use Rattle.mls_model.specs.Studies.{Sizes}
use Rattle.mls_model.specs.Blocks.{overlap, overlaps, width}
use Rattle.mls_assembly.specs.Shares.{Share, has_all}
use Rattle.mls_assembly.proofs.Taking.{below_at}

-- a client that overlaps the block and has no share
pub one_missing : (s s' : Sizes) (rank rank' : ℕ) (shares : ℕ → Option Share) (client : ℕ) (span : Span) → s' ≡ s → rank' ≡ rank → (end : ℕ) → end ≡ s'.clients → client < end → span ≡ overlap s' rank' client → span.first < span.end
    → is_some (shares client) ≡ false → false ≡ has_all s rank shares
one_missing s s' rank rank' shares client span s_is r_is end end_is within span_is some none =
    let inside : client < s.clients = subst (λ (z : Sizes). client < z.clients) s_is (subst (λ (n : ℕ). client < n) end_is within) in
    let same : span ≡ overlap s rank client = span_is ∙ (ap (λ z. overlap z rank' client) s_is ∙ ap (λ r. overlap s r client) r_is) in
    let wide : 0 < width span = omega arith in
    let over : overlaps s rank client ≡ true = lt-ltb 0 (width (overlap s rank client)) (subst (λ (x : Span). 0 < width x) same wide) in
    sym (false_from_ne_true _ (λ all.
    both_ways _ (ap (λ b. not b || is_some (shares client)) over ∙ none) (below_at (λ c. not (overlaps s rank c) || is_some (shares c)) s.clients all client inside)))

-- Where the samples of a block lie in its shares.
use Rattle.std.proofs.Common.{◌≡◌, ℕ, ◌+◌, ◌-◌, ◌*◌, ◌<◌, ◌≤◌, length, Some, sym, subst, arith, IsTrue}
use Rattle.std.proofs.Math.Nat.{mul-le-mul_right}
use Rattle.mls_model.specs.declared.blocks.Span.{Span}
use Rattle.mls_model.specs.Studies.{Sizes, AreSizes}
use Rattle.mls_model.specs.Blocks.{block, part, overlap, width, is_in_span, client_of}
use Rattle.mls_base.proofs.Spans.{bounds, in_span, in_meet, span_found}
use Rattle.mls_laws.proofs.OneClient.{IsBlock, is_block}
use Rattle.mls_assembly.specs.Shares.{Share, IsShare}
use Rattle.mls_assembly.specs.KeyShares.{KeyShares, share_in, AreShares}

pub cell_in_mesh : (s : Sizes) (rank cell : ℕ) (span : Span) → AreSizes s → rank < s.ranks → span ≡ block s rank → cell < width (block s rank) → span.first + cell < s.cells
cell_in_mesh s rank cell span sizes within is inside =
    let in_mesh : IsBlock s rank = is_block s rank sizes within in
    subst (λ (x : Span). x.first + cell < s.cells) (sym is) (omega (arith, in_mesh.within, in_mesh.some))

-- a sample of the block is in its share
pub record IsInShare (s : Sizes) (row x : ℕ) (share : Share) : Type 0 where
  pub within : row * share.count + (x - share.first) < length share.samples
  pub from : share.first ≤ x

pub sample_in : (s : Sizes) (rank row cell client : ℕ) (span : Span) (o : KeyShares) (share : Share) → AreSizes s → rank < s.ranks → span ≡ block s rank → cell < width (block s rank) → row < s.parameters + 2
    → AreShares s rank o → client_of s (span.first + cell) ≡ Some client → Some share ≡ share_in o client → IsInShare s row (span.first + cell) share
sample_in s rank row cell client span o share sizes within is inside row_in kept found at =
    let x : ℕ = span.first + cell in
    let in_block : IsTrue (is_in_span (block s rank) (span.first + cell)) = subst (λ (b : Span). IsTrue (is_in_span (block s rank) (b.first + cell))) (sym is) (in_span (block s rank) ((block s rank).first + cell) (omega arith) (omega arith)) in
    let in_part : IsTrue (is_in_span (part s client) (span.first + cell)) = ((span_found s.cells s.clients (span.first + cell) client sizes.some_clients).0 found).1 in
    let holds : IsTrue (is_in_span (overlap s rank client) (span.first + cell)) = (in_meet (block s rank) (part s client) (span.first + cell)).1 (in_block, in_part) in
    let b = bounds (overlap s rank client) (span.first + cell) holds in
    let low : (overlap s rank client).first ≤ span.first + cell = b.0 in
    let high : span.first + cell < (overlap s rank client).end = b.1 in
    let fits : IsShare s rank client share = kept.shares client share (sym at) in
    let first : share.first ≡ (overlap s rank client).first = fits.first in
    let count : share.count ≡ (overlap s rank client).end - (overlap s rank client).first = fits.count in
    let place : (span.first + cell) - share.first < share.count = omega arith in
    let rows : (row + 1) * share.count ≤ (s.parameters + 2) * share.count = mul-le-mul_right share.count (omega arith) in
    record { within = omega (arith, fits.size, rows, place); from = omega arith }

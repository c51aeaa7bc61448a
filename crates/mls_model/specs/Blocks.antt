-- How the mesh is cut into the ranks' blocks and the clients' parts.
use Rattle.std.specs.Prelude.{ℕ, ◌+◌, ◌*◌, ◌-◌, ◌/◌, Bool, ◌&&◌, nat_lt, nat_le, min, max, Option}
use Rattle.std.specs.List.{find}
use Rattle.mls_model.specs.declared.blocks.Span.{Span}
use Rattle.mls_model.specs.Numbers.{below}
use Rattle.mls_model.specs.Studies.{Sizes}

-- nth_span i of n over m cells: from floor(i·m/n) up to and without floor((i+1)·m/n)
abbrev pub nth_span : ℕ → ℕ → ℕ → Span
nth_span m n i = record { first = (i * m) / n; end = ((i + 1) * m) / n }

-- the block of a rank
abbrev pub block : Sizes → ℕ → Span
block s rank = nth_span s.cells s.ranks rank

-- the part of a client
abbrev pub part : Sizes → ℕ → Span
part s client = nth_span s.cells s.clients client

abbrev pub is_in_span : Span → ℕ → Bool
is_in_span span x = nat_le span.first x && nat_lt x span.end

abbrev pub width : Span → ℕ
width span = span.end - span.first

-- The cells that are in both. Where there are none, first and end are the same.
abbrev pub meet : Span → Span → Span
meet a b = record { first = max a.first b.first; end = max (max a.first b.first) (min a.end b.end) }

-- the cells of a rank's block that a client sends
abbrev pub overlap : Sizes → ℕ → ℕ → Span
overlap s rank client = meet (block s rank) (part s client)

-- whether a client's part and a rank's block nth_span a cell
abbrev pub overlaps : Sizes → ℕ → ℕ → Bool
overlaps s rank client = nat_lt 0 (width (overlap s rank client))

-- the rank whose block holds a cell, and the client whose part does
abbrev pub rank_of : Sizes → ℕ → Option ℕ
rank_of s x = find (λ rank. is_in_span (block s rank) x) (below s.ranks)

abbrev pub client_of : Sizes → ℕ → Option ℕ
client_of s x = find (λ client. is_in_span (part s client) x) (below s.clients)

-- Rows, and one of them changed.
use Rattle.plan_base.proofs.Common.{◌≡◌, ◌≢◌, ℕ, ◌<◌, List, length, get_or, set, refl, ap, Vec, Global, slice_get_read}
use Rattle.witness.specs.{Edge, row_at, items_of}
use Rattle.contractor.specs.inside.{into_at, nodes_in}
use Rattle.witness.proofs.ListLemmas.{slice_get-set_same, slice_get-set_other}

pub row_read : (rows : List (Vec Edge Global)) (u : ℕ) (row : Vec Edge Global) → u < length rows → row ≡ get_or rows u row → row_at rows u ≡ row.items
row_read rows u row lt is = ap items_of (slice_get_read rows (length rows) u row refl lt is)

pub row_set : (rows : List (Vec Edge Global)) (u : ℕ) (row : Vec Edge Global) → u < length rows → row_at (set rows u row) u ≡ row.items
row_set rows u row lt = ap items_of (slice_get-set_same rows u row lt)

pub row_kept : (rows : List (Vec Edge Global)) (u v : ℕ) (row : Vec Edge Global) → v ≢ u → row_at (set rows u row) v ≡ row_at rows v
row_kept rows u v row differ = ap items_of (slice_get-set_other rows u v row differ)

pub into_read : (into : List (Vec ℕ Global)) (u : ℕ) (nodes : Vec ℕ Global) → u < length into → nodes ≡ get_or into u nodes → into_at into u ≡ nodes.items
into_read into u nodes lt is = ap nodes_in (slice_get_read into (length into) u nodes refl lt is)

pub into_set : (into : List (Vec ℕ Global)) (u : ℕ) (nodes : Vec ℕ Global) → u < length into → into_at (set into u nodes) u ≡ nodes.items
into_set into u nodes lt = ap nodes_in (slice_get-set_same into u nodes lt)

pub into_kept : (into : List (Vec ℕ Global)) (u v : ℕ) (nodes : Vec ℕ Global) → v ≢ u → into_at (set into u nodes) v ≡ into_at into v
into_kept into u v nodes differ = ap nodes_in (slice_get-set_other into u v nodes differ)

-- The book that a map of names is: what a change of the map does to it, and its names.
use Rattle.plan_base.proofs.Common.{◌≡◌, ◌∙◌, refl, sym, ap, ap₂, subst, ℕ, Bool, true, false, cond, ◌||◌, List, [], ◌∷◌, Option, None, Some, is_some, option_map, Vec, map, string_bytes, bytes_eq, list_any, update, String, Global, keys, slice_cmp, is_eq, nat_cmp, Less, AllByRecursion, is_eq-slice_cmp}
use Rattle.std.specs.List.Sorted.{IsStrictlySortedBy}
use Rattle.std.proofs.Common.{string_cmp, BTreeMap}
use Rattle.std.specs.BTreeMap.{IsOrdered, UpdatesBy, get_by_text}
use Rattle.std.proofs.lemmas.Map.Made.{is_some-lookup}
use Rattle.std.proofs.lemmas.Map.Text.{btree_map_updates_text}
use Rattle.journey_book.specs.{AreNamesOf, book_of}

abbrev pub Bytes : Type 0
Bytes = Vec ℕ Global

-- looking at what is kept goes with a change
items_update : (f : List ℕ → Option Bytes) (name : List ℕ) (w : Option Bytes) (other : List ℕ)
    → option_map (λ (body : Bytes). body.items) (update bytes_eq f name w other) ≡ update bytes_eq (λ k. option_map (λ (body : Bytes). body.items) (f k)) name (option_map (λ (body : Bytes). body.items) w) other
items_update f name w other = by_test (bytes_eq name other)
  where
    by_test : (b : Bool) → option_map (λ (body : Bytes). body.items) (cond b w (f other)) ≡ cond b (option_map (λ (body : Bytes). body.items) w) (option_map (λ (body : Bytes). body.items) (f other))
    by_test true = refl
    by_test false = refl

pub book_updates : (name : List ℕ) (old new : BTreeMap (String Global) Bytes) (w : Option Bytes) → UpdatesBy string_cmp (λ k. slice_cmp nat_cmp name (string_bytes k)) old new w
    → (other : List ℕ) → book_of new other ≡ update bytes_eq (book_of old) name (option_map (λ (body : Bytes). body.items) w) other
book_updates name old new w updates other =
    ap (λ held. option_map (λ (body : Bytes). body.items) held) (btree_map_updates_text name old new w updates other) ∙ items_update (get_by_text old) name w other

-- the names of a map are those of its book
below_all : (name : List ℕ) (ks : List (String Global)) → AllByRecursion (λ k. slice_cmp nat_cmp name (string_bytes k) ≡ Less) ks → AllByRecursion (λ other. slice_cmp nat_cmp name other ≡ Less) (map string_bytes ks)
below_all name [] below = tt
below_all name (k ∷ ks) below = (below.0, below_all name ks below.1)

sorted_names : (ks : List (String Global)) → IsStrictlySortedBy string_cmp ks → IsStrictlySortedBy (λ a b. slice_cmp nat_cmp a b) (map string_bytes ks)
unfolding IsStrictlySortedBy
sorted_names [] sorted = tt
sorted_names (k ∷ ks) sorted = (below_all (string_bytes k) ks sorted.0, sorted_names ks sorted.1)

names_among : (name : List ℕ) (ks : List (String Global)) → list_any (λ k. is_eq (slice_cmp nat_cmp name (string_bytes k))) ks ≡ list_any (bytes_eq name) (map string_bytes ks)
names_among name [] = refl
names_among name (k ∷ ks) = ap₂ (λ a b. a || b) (is_eq-slice_cmp name (string_bytes k)) (names_among name ks)

is_some_items : (held : Option Bytes) → is_some (option_map (λ (body : Bytes). body.items) held) ≡ is_some held
is_some_items None = refl
is_some_items (Some body) = refl

pub names_are : (m : BTreeMap (String Global) Bytes) → IsOrdered string_cmp m → (names : List (List ℕ)) → names ≡ map string_bytes (keys m) → AreNamesOf (book_of m) names
names_are m ordered names are = subst (AreNamesOf (book_of m)) (sym are) (record {
  ascend = sorted_names (keys m) ordered;
  all = λ name. sym (is_some_items (get_by_text m name) ∙ is_some-lookup (λ k. is_eq (slice_cmp nat_cmp name (string_bytes k))) m.entries ∙ names_among name (keys m));
})

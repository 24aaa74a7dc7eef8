-- The names of std that proofs of the house cite, passed on from one place. Declares nothing.
pub use Rattle.std.proofs.Common.{◌≡◌, ◌∙◌, sym, ℕ, arith, ap, List, subst, length, refl, ◌<◌, [], ◌++◌, ◌+◌, Some, ◌∷◌, ◌≤◌, None, Option, true, false, Bool, inr, inl, map, ◌-◌, take, get_or, All, ◌^◌, suc, cond, option_map, append_assoc, nat_lt, zero, ◌⊎◌, drop, Contains, Ok, flat_map, ◌&&◌, ◌*◌, rules, slice_index_or, append-nil, ap₂, Err, nat_eq, IfSome, slice_get, Result, nat_le, length-append, codes, ◌≢◌, bytes_eq, option_to_list, ◌==◌, ltb-true, ℤ, if◌then◌else◌, eqb-true, Bor, not, ltb-false, lt-ltb, is_some, Vec, option_and_then, IfOk, IsPermutation, fold, filter, leb-true, sum_by, ◌%◌, ◌||◌, IsTrue, ◌↔◌, position, int_eq, ◌/◌, set, pos, take_all, eq-eqb, string_bytes, w64, slice_index, is_lt, le-ltb, nat_cmp, AllPairs, IsSorted, filter_map, min, decimal, count_by, unwrap_or, slice_range, below_more, take-append-drop, length-set, of_calls, IfErr, unsigned_abs, length-drop, le-leb, IsBitSet, add-one, is_eq, ltb, ⊎_elim, OnOk, get_or-drop, ◌≤ℤ◌, le_refl, HoldsAt, reverse, length-take-le, length-take, get_or-set_other, get_or-set_same, w32, int_le, add-zero, lit<, IsSomeAnd, ne_eqb, get_or-take, leb-false, int_cmp, ◌+ℤ◌, drop-cons, find, drop-drop, bit_and, ◌-ℤ◌, eqb, neg_ℤ, leb, SFits, get_or-append-add, FitsSigned, ◌<ℤ◌, lit≤, le_trans, slice_set, zero-add, zip, max, MatchOption, T, negsuc, vec_len, drop_at, mul-le-mul, ok_or, subst₂, IsSome, take-add, pow_pos, ◌*ℤ◌, bit_or, Decides, take_at, MatchResult, sum, lt_of_le_of_lt, IfNone, lt_of_lt_of_le, BTreeSet, int_lt, to_z, pow-suc, mul-le-mul_left, swap_remove, replicate, is_none}
pub use Rattle.std.proofs.Math.ListN.{get_or-append}
pub use Rattle.std.proofs.Math.Logic.{∥∥₁_map}
pub use Rattle.std.proofs.Math.Nat.{pow-le-pow_right, div-eq_of_lt}
pub use Rattle.std.proofs.Math.Seq.{get_or-append_seam, drop-append_seam, take-append_seam, take-length, drop-append-add}
pub use Rattle.std.proofs.lemmas.Bool.{cases_lt, false≢true, cases_eq, eqb-false, and_parts, and_from, cases_order, not-true, cases_Bool, false_from_ne_true, not_from_false, or_parts, cond-true, not-false, lt-leb}
pub use Rattle.std.proofs.lemmas.Bool.Decides.{nat_tests, Decides-int_eq}
pub use Rattle.std.proofs.lemmas.Cmp.{on_total, nat_cmp_total, then_total, tied_itself, nat_list_cmp_total, nat_list_eq_equiv}
pub use Rattle.std.proofs.lemmas.Float.{T_from_true}
pub use Rattle.std.proofs.lemmas.Fmt.{decimal_digit, decimal_step_wide}
pub use Rattle.std.proofs.lemmas.Fn.{always_returns_same, filter_same}
pub use Rattle.std.proofs.lemmas.Grind.{common_steps, flat_map-append, reverse_onto}
pub use Rattle.std.proofs.lemmas.Int.{to_z-of_z, ints}
pub use Rattle.std.proofs.lemmas.Iterator.Consumers.{map_from_collect}
pub use Rattle.std.proofs.lemmas.Iterator.Splits.{YieldsList-from_slice_split}
pub use Rattle.std.proofs.lemmas.List.{get_or_default, length-map, take_more, map-append, get_or-map, get_or_append_left, length_push, get_or_past, drop_more, drop_all, reverse-append, nil_from_length, get_or_push, reverse-reverse, drop-map, drop-append-le, flat_map_more, length-replicate, with_items_is, take-map, append_cancel_left, get_or-replicate}
pub use Rattle.std.proofs.lemmas.List.Concat.{length-flat_map, flat_map-cons}
pub use Rattle.std.proofs.lemmas.List.Elements.{All-contains, All-nil, All-cons, All-weaker, All-append, Contains-append_left, All-head, All-tail, Contains-append_right, Contains-get_or, All-push, All-map, All-more, Contains-push, Contains-push_cases, All-contains_itself, Contains-append_cases, filter-append, All-from_recursion, recursion_from_All, All-filter, filter_passes, filter_map-append, All-from_get_or, All-drop, All-same}
pub use Rattle.std.proofs.lemmas.List.Filters.{dedup_is}
pub use Rattle.std.proofs.lemmas.List.Folds.{flat_map-map, list_any_at, list_all-append, fold_stuck}
pub use Rattle.std.proofs.lemmas.List.FromFn.{length-range_with_len, get_or-range_with_len, length-map-range_with_len, get_or-map-range_with_len, map-range_with_len_more}
pub use Rattle.std.proofs.lemmas.List.Kept.{AllPairs-cons, Contains-from_dedup, IsStrictlySortedBy-dedup, AllPairs-filter}
pub use Rattle.std.proofs.lemmas.List.Quantifiers.{position-Some, all_pairs_push}
pub use Rattle.std.proofs.lemmas.List.Sorted.{All-permutation, answers_always, Contains-permutation, length_permutation, ranks_by, IsPermutation-sym, IsPartitionedBy-leb, sorted_far, sum_by-IsPermutation, IsPermutation-append_comm, IsPermutation-append_right, IsPartitionPoint-from_clause, IsPermutation-trans}
pub use Rattle.std.proofs.lemmas.List.Splits.{slice_split_none, slice_split_first}
pub use Rattle.std.proofs.lemmas.List.Sums.{sum_by-cons, sum_by-append, sum_by-set, count_by-le-length, position_or_len_is, AllPass-from_list_all, get_or-le-sum_by, sum_by_push, sum_by_more, fails_before_first, length-filter, count_by_more_yes, count_by_more_no, sum_by-take-le, sum_by-le-sum_by, sum_by-le, passes_at_first, fold-append}
pub use Rattle.std.proofs.lemmas.Map.Keys.{IsDistinct-IsPermutation, IsDistinct-cons, IsDistinct-tail, apart_from_distinct, IsDistinct-push, IsDistinct-head}
pub use Rattle.std.proofs.lemmas.Map.Lookups.{exact_unsigned, exact_pairs, exact_bytes, exact_signed}
pub use Rattle.std.proofs.lemmas.Map.Text.{is_eq-slice_cmp, hash_map_updates_str}
pub use Rattle.std.proofs.lemmas.Nat.{mul-le, pow_below}
pub use Rattle.std.proofs.lemmas.Nat.Bits.{bit_at_above, bit_at-lt, bit_at_or, bit_at-zero}
pub use Rattle.std.proofs.lemmas.Option.{none-some, same_Some, slice_get_within, get_or_from_slice_get, slice_get-get_or, option_and_then_some, cond_some, slice_get_cases, slice_get_read, slice_get_past, IfSome_then, some_pair_parts, gets}
pub use Rattle.std.proofs.lemmas.Result.{err_from_is_err_and, IfOk-weaker, on_ok_weaker, IfOk-at_ok}
pub use Rattle.std.proofs.lemmas.Slice.Eq.{bytes_eq-Decides}
pub use Rattle.std.specs.BTreeMap.{keys}
pub use Rattle.std.specs.Cmp.{IsTotalOrder, int_cmp_total, ranks, IsEquivalence, eq_by_cmp_equiv, int_ranks, int_eq_equiv}
pub use Rattle.std.specs.Cmp.Lexicographic.{slice_cmp}
pub use Rattle.std.specs.Fmt.{signed_decimal}
pub use Rattle.std.specs.HashMap.{get}
pub use Rattle.std.specs.Int.{bit_at, to_be_bytes, cast_signed, cast_unsigned, div_ceil}
pub use Rattle.std.specs.Io.KnownBytes.{Keeps}
pub use Rattle.std.specs.List.{AllByRecursion, range_with_len, list_any, list_all, AllWithin, IsDistinct, position_or_len, slice_split, cons_option, onto_first, dedup, prefix_len, before_first, after_first}
pub use Rattle.std.specs.List.Sorted.{IsNonDecreasingBy, IsPartitionPoint, IsPartitionedBy}
pub use Rattle.std.specs.Map.{lookup, update}
pub use Rattle.std.specs.Option.{option_or, option_map_or}
pub use Rattle.std.specs.Ordering.{ordering_then, ordering_reverse, MatchOrdering, eq_by_cmp, ordering_index}
pub use Rattle.std.specs.Prelude.{⊤}
pub use Rattle.std.specs.Vec.{with_item}
pub use Rattle.std.specs.declared.alloc.Global.{Global}
pub use Rattle.std.specs.declared.cmp.Ordering.{Ordering}
pub use Rattle.std.specs.declared.cmp.Ordering.TheVariants.{Less, Equal, Greater}
pub use Rattle.std.specs.declared.string.String.{String}

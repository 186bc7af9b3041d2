-- Answers of `encode_with`: what its calls ask for, and what it promises.
use Rattle.std.proofs.Common.{◌≡◌, ◌≤◌, List, length, Ok, ap, subst, arith}
use Rattle.class_model.specs.declared.code.Ins.{Ins}
use Rattle.code_write.specs.Coded.{placed}
use Rattle.code_write.proofs.Ends.{places_count}
use Rattle.code_write.proofs.Ready.{placed_is, all_good}
use Rattle.code_write.proofs.encoding.encode_with.Goals as goal

pub check_branches-requires-clause-places : goal.check_branches-requires-clause-places
check_branches-requires-clause-places c =
    let pool = c.args.table.now in
    let ins = c.args.ins.now in
    let all = c.in_ok-places.places in
    let h : placed pool ins ≡ Ok all = subst (λ (is : List Ins). placed pool is
    ≡ Ok all) c.as_slice.ensures c.in_ok-places.ensures in
    let is = placed_is pool ins all h in
    rw (c.as_slice-3.ensures, c.as_slice-2.ensures) (omega (arith, ap length is.0, places_count pool ins))

pub check_branches-requires-clause-good : goal.check_branches-requires-clause-good
check_branches-requires-clause-good c =
    let pool = c.args.table.now in
    let ins = c.args.ins.now in
    let all = c.in_ok-places.places in
    let h : placed pool ins ≡ Ok all = subst (λ (is : List Ins). placed pool is
    ≡ Ok all) c.as_slice.ensures c.in_ok-places.ensures in
    let is = placed_is pool ins all h in
    let le : length ins ≤ length all = omega (arith, ap length is.0, places_count pool ins) in
    rw (c.as_slice-3.ensures, c.as_slice-2.ensures) (all_good (length ins) (length all) le ins c.requires.good)

pub code_bytes-requires-clause-good : goal.code_bytes-requires-clause-good
code_bytes-requires-clause-good c =
    let pool = c.args.table.now in
    let ins = c.args.ins.now in
    let all = c.in_ok-places.places in
    let h : placed pool ins ≡ Ok all = subst (λ (is : List Ins). placed pool is
    ≡ Ok all) c.as_slice.ensures c.in_ok-places.ensures in
    let is = placed_is pool ins all h in
    let le : length ins ≤ length all = omega (arith, ap length is.0, places_count pool ins) in
    rw (c.as_slice-5.ensures, c.as_slice-4.ensures) (all_good (length ins) (length all) le ins c.requires.good)

pub code_bytes-requires-clause-places : goal.code_bytes-requires-clause-places
code_bytes-requires-clause-places c =
    let pool = c.args.table.now in
    let ins = c.args.ins.now in
    let all = c.in_ok-places.places in
    let h : placed pool ins ≡ Ok all = subst (λ (is : List Ins). placed pool is
    ≡ Ok all) c.as_slice.ensures c.in_ok-places.ensures in
    let is = placed_is pool ins all h in
    rw (c.as_slice-4.ensures, c.as_slice-5.ensures) is.0

pub code_bytes-requires-clause-length : goal.code_bytes-requires-clause-length
code_bytes-requires-clause-length c =
    let pool = c.args.table.now in
    let ins = c.args.ins.now in
    let all = c.in_ok-places.places in
    let h : placed pool ins ≡ Ok all = subst (λ (is : List Ins). placed pool is
    ≡ Ok all) c.as_slice.ensures c.in_ok-places.ensures in
    let is = placed_is pool ins all h in
    rw (c.as_slice-4.ensures, c.as_slice-5.ensures) is.1

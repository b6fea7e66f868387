-- At each size, the bytes stored are those of the code point.
use Rattle.std.proofs.Common.{sym, arith}
use native.Mathlib.Numerals.{unary_clauses}
use Rattle.text.specs.Utf8Laws.{utf8_one, utf8_two, utf8_three, utf8_four}
use Rattle.text.proofs.Stores.{stored}
use Rattle.text.proofs.utf8.put_utf8.Goals as goal

pub returns-then-point-lt128 : goal.returns-then-point-lt128
returns-then-point-lt128 c =
    let a = c.args in
    stored a.page.now a.at a.point _ (sym (utf8_one a.point (omega arith))) c.requires.0

pub returns-then-point-lt2048 : goal.returns-then-point-lt2048
returns-then-point-lt2048 c =
    let a = c.args in
    let p = stored a.page.now a.at a.point _ (sym (utf8_two a.point (omega arith) (omega arith))) c.requires.0 in
    (simp unary_clauses p.0, p.1)

pub returns-then-point-lt65536 : goal.returns-then-point-lt65536
returns-then-point-lt65536 c =
    let a = c.args in
    let p = stored a.page.now a.at a.point _ (sym (utf8_three a.point (omega arith) (omega arith))) c.requires.0 in
    (simp unary_clauses p.0, p.1)

pub returns : goal.returns
returns c =
    let a = c.args in
    let p = stored a.page.now a.at a.point _ (sym (utf8_four a.point (omega arith))) c.requires.0 in
    (simp unary_clauses p.0, p.1)

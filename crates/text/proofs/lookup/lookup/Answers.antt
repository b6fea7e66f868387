-- The closure gives an entry's key: what the search found is the entry with the key, or that there is none.
use Rattle.std.proofs.Common.{[], Ok, Err, ap, arith, rules}
use Rattle.std.proofs.lemmas.List.Sorted.{answers_always}
use Rattle.text.specs.Mapping.{key_of}
use Rattle.text.proofs.Searching.{below_all, searched}
use Rattle.text.proofs.lookup.lookup.Goals as goal

pub returns : goal.returns
returns c = below_all c.args.entries.now c.requires c.args.key (omega (arith, c.if-key-first.true, ap key_of (c.in-Some.ensures.item.3.1 [])))

pub returns-in-Ok : goal.returns-in-Ok
returns-in-Ok c =
    let found = c.in-Ok.ensures in
    searched c.args.entries.now c.requires c.args.key (Ok c.in-Ok.at) found.bound (found.position key_of (answers_always _ _ _ (λ f a r g called. search rules)))

pub returns-in-Err : goal.returns-in-Err
returns-in-Err c =
    let found = c.in-Err.ensures in
    searched c.args.entries.now c.requires c.args.key (Err c.in-Err.field-0) found.bound (found.position key_of (answers_always _ _ _ (λ f a r g called. search rules)))

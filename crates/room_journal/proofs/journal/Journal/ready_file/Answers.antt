use Rattle.std.proofs.Common.{◌≡◌, ap, subst, rules, arith, ◌++◌, ◌∷◌, [], ◌+◌, length}
use Rattle.room_journal.specs.Rest.{Place, IsFileOf}
use Rattle.room_journal.proofs.Written.{made_file, eight, mark}
use Rattle.room_journal.proofs.journal.Journal.ready_file.Goals as goal

pub returns-clause-ready : goal.returns-clause-ready
returns-clause-ready c more =
    let same = ap (λ (p : Place). p.generation) c.self.view_is in
    let g = c.self.inside.generation + 1 in
    let s = c.args.snapshot.now in
    let bytes : c.from_vec.result ≡ ((((eight mark ++ eight g) ++ eight (length s)) ++ s) ++ 0 ∷ []) = search rules in
    subst (λ (p : Place). IsFileOf (p.generation + 1) s c.from_vec.result) c.self.view_is
    (made_file g s _ (omega arith) (omega (arith, more, same)) (search rules) bytes)

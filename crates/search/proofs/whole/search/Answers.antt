use Rattle.std.proofs.Common.{◌≡◌, ◌≤◌, length, Ok, ap, ◌∙◌, arith}
use Rattle.search.specs.Searches.{done, searched}
use Rattle.search.proofs.Telling.{err_is, unfound_done, found_done, searched_tells}
use Rattle.search.proofs.whole.search.Goals as goal

pub returns-in_err-found : goal.returns-in_err-found
returns-in_err-found g c =
    let K = g.S.Symbol.kind in
    let choice = g.P.Policy.choice in
    let k = g.C.Rows.matrix c.args.code.now in
    let ok = g.C.Rows.lawful c.args.code.now in
    let received = c.args.received.now in
    let syms = c.args.table.now in
    let p = c.args.policy.now in
    let ws = c.args.words.now in
    let ss = c.args.sides.now in
    let e = c.in_err-found.field-0.0 in
    let p' = c.look.new.policy in
    let ws' = c.look.new.words in
    let ss' = c.look.new.sides in
    let r = c.from_residual.result in
    let all : done r syms p' ws' ss' ≡ searched K choice k received syms p ws ss =
    ap (λ r. done r syms p' ws' ss') (err_is r e c.from_residual.ensures.1) ∙ unfound_done K choice k received syms p ws ss e p' ws' ss' c.in_err-found.ensures in
    let wide : k.width ≤ length received = omega (arith, ok.few_columns) in
    record { done = all; tells = searched_tells g.met.S.Symbol.lawful choice g.met.P.Policy.names k ok received wide syms p ws ss r syms p' ws' ss' all }

pub returns : goal.returns
returns g c =
    let K = g.S.Symbol.kind in
    let choice = g.P.Policy.choice in
    let k = g.C.Rows.matrix c.args.code.now in
    let ok = g.C.Rows.lawful c.args.code.now in
    let received = c.args.received.now in
    let syms = c.args.table.now in
    let p = c.args.policy.now in
    let ws = c.args.words.now in
    let ss = c.args.sides.now in
    let f = c.in_ok-found.found in
    let p' = c.look.new.policy in
    let ws' = c.look.new.words in
    let ss' = c.look.new.sides in
    let ss'' = c.wipe.new.sides in
    let wide : k.width ≤ length received = omega (arith, ok.few_columns) in
    let found = found_done K choice k received syms p ws ss f p' ws' ss' ss'' _ ok.few_columns c.look.auto.sides (ap (λ s. s.rows) c.shape.ensures) c.in_ok-found.ensures c.wipe.ensures in
    let all : done (Ok c.report.result) c.fill.new.table p' ws' ss'' ≡ searched K choice k received syms p ws ss =
    (λ i. done (Ok (c.report.ensures i)) (c.fill.ensures i) p' ws' ss'') ∙ found in
    record { done = all; tells = searched_tells g.met.S.Symbol.lawful choice g.met.P.Policy.names k ok received wide syms p ws ss (Ok c.report.result) c.fill.new.table p' ws' ss'' all }

use Rattle.std.proofs.Common.{◌≡◌, ◌≤◌, length, sym, ap, ◌∙◌, arith}
use Rattle.search.proofs.Beginning.{active_width, begun_state, begun_going}
use Rattle.search.proofs.Keeping.{kept_moved}
use Rattle.search.proofs.Loading.{loaded_moved, begun_moved}
use Rattle.search.proofs.heard.Heard.load.Goals as goal

pub begin-requires : goal.begin-requires
begin-requires g c =
    let ok = g.C.Rows.lawful c.args.self.now.code.now in
    record {
      few = omega (arith, c.load_rows-counts.auto.sides, c.requires.high, ok.few_rows);
      within = omega (arith, c.load_rows-counts.auto.sides, c.load_rows-counts.auto.words, c.requires.within);
    }

pub returns : goal.returns
returns g c =
    let K = g.S.Symbol.kind in
    let k = g.C.Rows.matrix c.args.self.now.code.now in
    let ok = g.C.Rows.lawful c.args.self.now.code.now in
    let received = c.args.self.now.received.now in
    let table = c.args.self.now.table.now in
    let counts = c.load_rows-counts.result in
    let e = c.begin.result in
    let is = c.begin.ensures in
    let high : length e.sides.now ≡ length c.args.sides.now = ap length is.rights ∙ c.load_rows-counts.auto.sides in
    let wide : k.width ≤ length received = omega (arith, ok.few_columns, c.args.self.now.each) in
    let loaded = loaded_moved K k received table is.lines is.rights high c.load_rows-counts.ensures.loaded in
    let below = kept_moved is.kept is.lines high c.load_rows-counts.ensures.kept in
    let begun = begun_moved (sym c.args.self.now.wide) (ap length is.rights) is.begun in
    record {
      words = is.words;
      sides = is.sides;
      long = ap length is.lines ∙ c.load_rows-counts.auto.words;
      high = high;
      wide = active_width K k ok received table counts e wide (high ∙ c.requires.high) loaded begun;
      going = begun_going K k ok received table counts e wide (high ∙ c.requires.high) loaded begun below;
      state = begun_state K k ok received table counts e wide (high ∙ c.requires.high) loaded begun;
    }

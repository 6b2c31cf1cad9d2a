-- The lines before the first call of a script.
use Rattle.std.proofs.Common.{◌≡◌, ℕ, ◌+◌, Bool, true, false, cond, List, [], ◌∷◌, ◌++◌, Some, None, MatchBool, codes, map, length, refl, rules, ap, sym, ◌∙◌, append-nil}
use Rattle.std.proofs.lemmas.Bool.{cond-true, cond-false}
use Rattle.std.proofs.lemmas.List.{map-append}
use Rattle.script.specs.Lines.{not_understood}
use Rattle.script.specs.Words.{passed_over}
use Rattle.symbols.specs.declared.kinds.Cell.{Cell}
use Rattle.dialogue.specs.Sayings.{Saying, said_by, Saying.say_symbols}
use Rattle.dialogue.specs.Scores.{Line, Line.told, line}
use Rattle.dialogue.specs.declared.score.Answer.{Answer}
use Rattle.dialogue.specs.Beginnings.{AllUnread, unread, other_call, Begun, Opens.with_nothing, Opens.with_symbols, Opens.with_another}
use Rattle.dialogue.specs.Lines.{Numbered, Cut, Cuts}
use Rattle.dialogue.specs.Symbols.{cells}
use Rattle.dialogue.specs.declared.said.SymbolName.{SymbolName}
use Rattle.dialogue.specs.declared.said.SymbolName.TheVariants as kinds
use Rattle.dialogue.proofs.Cutting.{cuts_more}

-- one more line, by what it adds to the answers
unread_with : (o : Bool) (l : Numbered) (xs ys : List Line) → xs ≡ ys → cond o xs (told (not_understood l.number l.text) ∷ xs) ≡ cond o ys (told (not_understood l.number l.text) ∷ ys)
unread_with o l xs ys e = ap (λ zs. cond o zs (told (not_understood l.number l.text) ∷ zs)) e

pub unread_passed : (ls : List Numbered) (l : Numbered) → passed_over l.text ≡ true → unread (ls ++ (l ∷ [])) ≡ unread ls
unread_passed [] l over = cond-true _ _ _ over
unread_passed (m ∷ ls) l over = unread_with (passed_over m.text) m _ _ (unread_passed ls l over)

before_cond : (o : Bool) (x : Line) (xs ys : List Line) → cond o (xs ++ ys) (x ∷ (xs ++ ys)) ≡ cond o xs (x ∷ xs) ++ ys
before_cond true x xs ys = refl
before_cond false x xs ys = refl

pub unread_told : (ls : List Numbered) (l : Numbered) → passed_over l.text ≡ false → unread (ls ++ (l ∷ [])) ≡ unread ls ++ (told (not_understood l.number l.text) ∷ [])
unread_told [] l over = cond-false _ _ _ over
unread_told (m ∷ ls) l over =
    unread_with (passed_over m.text) m _ _ (unread_told ls l over)
    ∙ before_cond (passed_over m.text) (told (not_understood m.number m.text)) (unread ls) (told (not_understood l.number l.text) ∷ [])

none_passed : (o : Bool) (X : Type 0) → o ≡ true → MatchBool o (Unit {0}) X
none_passed true X e = tt
none_passed false X e = search (rules, e)

none_told : (o : Bool) (X : Type 0) → X → MatchBool o (Unit {0}) X
none_told true X x = tt
none_told false X x = x

pub all_passed : (ls : List Numbered) (l : Numbered) → AllUnread ls → passed_over l.text ≡ true → AllUnread (ls ++ (l ∷ []))
all_passed [] l a over = (none_passed _ _ over, tt)
all_passed (m ∷ ls) l a over = (a.0, all_passed ls l a.1 over)

pub all_told : (ls : List Numbered) (l : Numbered) → AllUnread ls → said_by cells l.text ≡ None → AllUnread (ls ++ (l ∷ []))
all_told [] l a none = (none_told _ _ none, tt)
all_told (m ∷ ls) l a none = (a.0, all_told ls l a.1 none)

-- so far no call: these answers, and this is left
pub record SoFar (text rest : List ℕ) (before : ℕ) (answers : List Line) : Type 0 where
  pub lines : List Numbered
  pub cuts : Cuts text 0 lines rest before
  pub all : AllUnread lines
  pub told_as : answers ≡ unread lines

abbrev numbered : ℕ → List ℕ → Numbered
numbered n line = record { number = n; text = line }

pub lines_more : (xs : List Answer) (a : Answer) (ys : List Answer) → ys ≡ xs ++ (a ∷ []) → map line ys ≡ map line xs ++ (line a ∷ [])
lines_more xs a ys e = ap (map line) e ∙ map-append line xs (a ∷ [])

pub ends : {text rest : List ℕ} {before : ℕ} {answers : List Line} → SoFar text rest before answers → length rest ≡ 0 → Begun text kinds.Cell answers rest before
ends {rest = rest} {before = before} so none = record {
  lines = so.lines;
  middle = rest;
  before = before;
  first = [];
  cuts = so.cuts;
  unread_all = so.all;
  opens = with_nothing none refl refl refl refl;
  heard_as = so.told_as ∙ sym (append-nil (unread so.lines));
}

module _ {text rest behind here : List ℕ} {before : ℕ} {answers : List Line} (number before' : ℕ) (so : SoFar text rest before answers) (cut : Cut rest here behind) where
  pub passed : number ≡ before + 1 → before' ≡ before + 1 → passed_over here ≡ true → SoFar text behind before' answers
  passed n next over = record {
    lines = so.lines ++ (numbered number here ∷ []);
    cuts = cuts_more text 0 so.lines rest before (numbered number here) behind before' so.cuts cut n next;
    all = all_passed so.lines (numbered number here) so.all over;
    told_as = so.told_as ∙ sym (unread_passed so.lines (numbered number here) over);
  }

  pub no_call : {answers' : List Line} → number ≡ before + 1 → before' ≡ before + 1 → passed_over here ≡ false → said_by cells here ≡ None
      → answers' ≡ answers ++ (told (not_understood number here) ∷ []) → SoFar text behind before' answers'
  no_call n next over none more = record {
    lines = so.lines ++ (numbered number here ∷ []);
    cuts = cuts_more text 0 so.lines rest before (numbered number here) behind before' so.cuts cut n next;
    all = all_told so.lines (numbered number here) so.all none;
    told_as = more ∙ ap (λ xs. xs ++ (told (not_understood number here) ∷ [])) so.told_as ∙ sym (unread_told so.lines (numbered number here) over);
  }

  pub says_symbols : {answers' : List Line} (name : SymbolName) → before' ≡ before + 1 → passed_over here ≡ false → said_by cells here ≡ Some (say_symbols name)
      → answers' ≡ answers ++ (told (codes "symbols granted") ∷ []) → Begun text name answers' behind before'
  says_symbols name next over said more = record {
    lines = so.lines;
    middle = rest;
    before = before;
    first = told (codes "symbols granted") ∷ [];
    cuts = so.cuts;
    unread_all = so.all;
    opens = with_symbols here cut over said refl next;
    heard_as = more ∙ ap (λ xs. xs ++ (told (codes "symbols granted") ∷ [])) so.told_as;
  }

  pub says_another : passed_over here ≡ false → (said : Saying Cell) → said_by cells here ≡ Some said → other_call said ≡ true → Begun text kinds.Cell answers rest before
  says_another over said is other = record {
    lines = so.lines;
    middle = rest;
    before = before;
    first = [];
    cuts = so.cuts;
    unread_all = so.all;
    opens = with_another here behind cut over said is other refl refl refl refl;
    heard_as = so.told_as ∙ sym (append-nil (unread so.lines));
  }

-- Shown: shortcuts that fit are appended one after another.
use Rattle.std.proofs.Common.{◌≡◌, ℕ, ◌+◌, ◌<◌, ◌≤◌, true, ltb, List, [], ◌∷◌, ◌++◌, length, get_or, take, sym, ap, ◌∙◌, arith, length-append}
use Rattle.std.proofs.lemmas.List.{append_assoc, take_more, length-take-le}
use Rattle.std.proofs.lemmas.Bool.{lt-ltb, cond-true}
use Rattle.hierarchy.specs.declared.Shortcut.{Shortcut}
use Rattle.hierarchy.specs.Kinds.{Kind}
use Rattle.hierarchy.specs.Books.{Book}
use Rattle.levelling.specs.Meaning.{with_shortcut}
use Rattle.levelling.specs.Listed.{with_all}

module _ {K : Kind} (old : Book K) (xs : List (Shortcut K.C)) (i : ℕ) (s : Shortcut K.C) (h : i < length xs) (is : s ≡ get_or xs i s)
    (room : length old.shortcuts + length xs ≤ 2048) where
  fits : (mid : Book K) → mid ≡ with_all (take i xs) old → ltb (length mid.shortcuts) 2048 ≡ true
  fits mid e =
      let long = ap (λ b. length b.shortcuts) e ∙ length-append old.shortcuts (take i xs) in
      lt-ltb (length mid.shortcuts) 2048 (omega (arith, long, length-take-le i xs (omega arith)))

  pub one_more : (mid new : Book K) → mid ≡ with_all (take i xs) old → new ≡ with_shortcut s mid → new ≡ with_all (take (i + 1) xs) old
  one_more mid new e f = f ∙ (λ j. record {
    level = (e j).level;
    kept = (e j).kept;
    shortcuts = (cond-true _ (mid.shortcuts ++ (s ∷ [])) mid.shortcuts (fits mid e) ∙ ap (λ b. b.shortcuts ++ (s ∷ [])) e ∙ append_assoc old.shortcuts (take i xs) (s ∷ [])
        ∙ ap (λ l. old.shortcuts ++ l) (ap (λ x. take i xs ++ (x ∷ [])) is ∙ sym (take_more xs i s h))) j;
  })

use Rattle.bk_filters.proofs.Terms.{◌∙◌, ap, refl, rules, declarations_of}
use Rattle.bk_tree.specs.declared.section.Section.{Section}
use Rattle.bk_trans.specs.Naming.{named_tree}
use Rattle.bk_trans.specs.Scheme.{scheme}
use Rattle.bk_filters.proofs.SectionLemmas.{parse_refuses, resolve_refuses}
use Rattle.bk_filters.proofs.section.code_of.Goals as goal

pub returns-in_err-tree-clause-refuses : goal.returns-in_err-tree-clause-refuses
returns-in_err-tree-clause-refuses c =
    let refuses = parse_refuses _ c.args.end c.in_err-tree.field-0.0 c.in_err-tree.ensures.parses c.in_err-tree.ensures.only in
    search rules

pub returns-in_err-resolved-clause-refuses : goal.returns-in_err-resolved-clause-refuses
returns-in_err-resolved-clause-refuses c =
    let parsed = c.in_ok-tree.ensures in
    let refuses = resolve_refuses _ c.args.end c.in_ok-tree.tree c.in_err-resolved.field-0.0 parsed.parses parsed.within parsed.only c.in_err-resolved.ensures.resolves in
    search rules

pub returns-clause-translates : goal.returns-clause-translates
returns-clause-translates c = record {
  tree = declarations_of c.in_ok-tree.tree;
  tree_is = refl;
  is = record {
    section = rw c.as_slice.ensures.value at c.in_ok-tree.ensures.parses;
    within = c.in_ok-tree.ensures.within;
    faultless = c.in_ok-resolved.ensures.resolves.0;
  };
  code = c.in_ok-code.ensures ∙ ap (λ (x : Section). scheme (named_tree (declarations_of x))) c.in_ok-resolved.ensures.section;
}

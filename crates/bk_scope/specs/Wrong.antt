-- What may be wrong with the names and constants of a section, and where.
use Rattle.std.specs.Prelude.{ℕ, List}
use Rattle.std.specs.Str.{encode_utf8_all}

-- what is wrong; names are reported by their text
pub data Wrong : Type 0 where
  not_declared : List ℕ → Wrong
  declared_twice : List ℕ → Wrong
  dynamic_name : List ℕ → Wrong
  not_constant : Wrong
  divided_by_zero : Wrong
  case_repeated : Wrong
  default_repeated : Wrong
  no_loop : Wrong
  no_switchon : Wrong
  no_result_or_return : Wrong
  label_not_here : List ℕ → Wrong
  global_out_of_range : Wrong
  vec_out_of_range : Wrong
  frame_too_large : Wrong
  not_assignable : Wrong
  two_procedures : List ℕ → Wrong
  -- something else
  elsewhere : Wrong

pub record Breach : Type 0 where
  pub at : ℕ
  pub wrong : Wrong

-- The text of a name: each byte is the character of that number. Names of a source have letters, digits and dots alone, and
-- are their own text.
abbrev pub text_of : List ℕ → List ℕ
text_of x = encode_utf8_all x

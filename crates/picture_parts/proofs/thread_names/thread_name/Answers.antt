use Rattle.std.proofs.Common.{◌∙◌, refl}
use Rattle.std.proofs.lemmas.Str.Ascii.{trim_ascii_end_is}
use Rattle.picture_parts.specs.ThreadNames.{name_of_thread}
use Rattle.picture_parts.proofs.thread_names.thread_name.Goals as goal

pub returns : goal.returns
unfolding name_of_thread
returns c = trim_ascii_end_is _ _ c.trim_ascii_end.ensures.value ∙ rw (c.split_at-2.ensures.front, c.split_at.ensures.back) refl

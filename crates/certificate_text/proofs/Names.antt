-- Names from elsewhere that several files of these proofs use.
pub use Rattle.std.proofs.lemmas.Bool.{and_from, and_parts, cases_order, not-true}
pub use Rattle.std.proofs.lemmas.Bool.Decides.{nat_tests}
pub use Rattle.std.proofs.lemmas.Fmt.{decimal-digits_value, decimal_digit, decimal_nonempty, digits_decimal, digits_value-decimal}
pub use Rattle.std.proofs.lemmas.Fmt.{first_decimal}
pub use Rattle.std.proofs.lemmas.List.{at_drop_more, flat_map_more, length-append, take_all, take_more}
pub use Rattle.std.proofs.lemmas.List.Elements.{All-cons, All-head, All-more, All-nil, All-push, All-tail, All-take, All-weaker}
pub use Rattle.std.proofs.lemmas.List.Folds.{length-flat_map-take, list_all-append}
pub use Rattle.std.proofs.lemmas.List.Splits.{join_with_byte-slice_split, slice_split_at, slice_split_none}
pub use Rattle.std.proofs.lemmas.Option.{cond_some, none-some, same_Some}
pub use Rattle.std.specs.Char.{is_ascii_digit}
pub use Rattle.std.specs.List.{flat_map, join_with_byte, list_all, onto_first}
pub use Rattle.std.specs.Option.{ok_or, option_and_then}
pub use Rattle.std.specs.Str.{all_ascii_digits}
pub use Rattle.certificate_text.specs.CertificateLines.{is_canonical_numeral, only_number, parsed_cert_line, parsed_cert_number}
pub use Rattle.certificate_text.specs.CertificateLines.{parsed_cert_words, parsed_cut, parsed_members_after, parsed_number_above}
pub use Rattle.certificate_text.specs.CertificateLines.{parsed_pass, parsed_pass_along, parsed_passes, parsed_walk, small_number}
pub use Rattle.certificate_text.specs.CertificateTexts.{certificate_text, cut_line_text, member_text, pass_text, passes_text, piece_text}
pub use Rattle.certificate_text.specs.ReadCertificates.{AreFew, HasFewItems, HasSmallNumbers, IsCertificatePrefix, IsFirstBadLine}
pub use Rattle.certificate_text.specs.ReadCertificates.{PiecesHaveOneText, ReadPiecesCanBePrinted, ReportsFirstBadLine, TextOfPiecesIsRead}
pub use Rattle.certificate_text.specs.ReadCertificates.{cert_of, draft_with_line, draft_with_text_line, first_lines, pieces_after_lines}
pub use Rattle.certificate_text.specs.ReadCertificates.{pieces_at_end, with_cut}
pub use Rattle.certificate_text.specs.declared.draft.CertDraft.{CertDraft}
pub use Rattle.certificate_text.specs.declared.lines.CertLine.{CertLine}
pub use Rattle.line_graph.specs.GrowingDrawings.{and_then}
pub use Rattle.line_graph.specs.declared.pass.Pass.{Pass}
pub use Rattle.design_model.proofs.ListLemmas.{decimal_model, false_true, same_word}
pub use Rattle.design_model.specs.TextLines.{newline}
pub use Rattle.odd_cuts.specs.Certificates.{HasCanonicalText}
pub use Rattle.odd_cuts.specs.Packings.{IsPlainCut}
pub use Rattle.odd_cuts.specs.declared.certificate.PieceCert.{PieceCert}
pub use Rattle.odd_cuts.specs.declared.cut.Cut.{Cut}
pub use Rattle.text_parts.proofs.CallerLemmas.{digits_inner, inner_kept, is_line_byte, is_word_byte, no_space, some_part}
pub use Rattle.text_parts.specs.Parts.{parts_between, words_in}

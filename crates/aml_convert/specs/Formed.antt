-- What an operator forms, as a content.
use Rattle.aml_objects.specs.Contents.{Content, String, Buffer}
use Rattle.aml_convert.specs.declared.formed.Formed as code
use Rattle.aml_convert.specs.declared.formed.Formed.TheVariants as formed

abbrev pub formed_content : code.Formed → Content
formed_content (formed.String bytes) = String bytes
formed_content (formed.Buffer bytes) = Buffer bytes

pub mod BankTerms
pub mod DeclaringFields
pub mod MadeValues

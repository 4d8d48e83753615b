mod Words
mod Forms
